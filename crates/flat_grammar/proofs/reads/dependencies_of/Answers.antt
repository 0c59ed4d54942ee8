use Rattle.std.proofs.Common.{inl, inr}
use Rattle.std.proofs.lemmas.List.Elements.{Contains-append_left, Contains-append_right, Contains-append_cases}
use Rattle.flat_grammar.specs.Rules.{reads}
use Rattle.flat_grammar.proofs.reads.dependencies_of.Goals as goal

pub returns : goal.returns
returns c =
    let listed = c.in_ok-list.list.items in
    let read = reads c.args.comp.now.value in
    let beside = c.args.comp.now.after in
    rw (c.in_ok-extend_from_slice.ensures.items, c.as_slice.ensures) (λ o. (
      λ h. elim (Contains-append_cases listed beside o h) [ inl l ↦ Contains-append_left read beside o ((c.in_ok-list.ensures o).0 l) | inr r ↦ Contains-append_right read beside o r ],
      λ h. elim (Contains-append_cases read beside o h) [ inl l ↦ Contains-append_left listed beside o ((c.in_ok-list.ensures o).1 l) | inr r ↦ Contains-append_right listed beside o r ],
    ))
