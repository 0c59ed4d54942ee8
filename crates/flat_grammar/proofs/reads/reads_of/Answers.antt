use Rattle.std.proofs.Common.{◌≡◌, ◌∙◌, ap, subst, map, flat_map, ◌++◌, ◌∷◌, [], length, arith}
use Rattle.std.proofs.lemmas.Grind.{common_steps}
use Rattle.std.specs.Borrow.{Bor}
use Rattle.std.proofs.lemmas.List.{append-nil, map-append, nil_from_length}
use Rattle.flat_grammar.specs.declared.flat.FlatExpr.{FlatExpr}
use Rattle.flat_grammar.specs.Rules.{reads}
use Rattle.flat_grammar.proofs.ArgumentsLemmas.{HaveSame, reads-step}
use Rattle.flat_grammar.proofs.reads.reads_of.Goals as goal

seen : Bor FlatExpr → FlatExpr
seen value = value.now

pub loop-next-preserved : goal.loop-next-preserved
unfolding seen
loop-next-preserved c =
    let l = c.loop-next in
    let left = map seen c.pop.new.self.items in
    let stack : map seen l.rest.items ≡ left ++ c.in-Some.next.now ∷ [] = ap (map seen) c.in-Some.ensures.items ∙ map-append seen c.pop.new.self.items (c.in-Some.next ∷ []) in
    let before : HaveSame (l.list.items ++ flat_map reads (left ++ c.in-Some.next.now ∷ [])) (reads c.args.value.now) = subst (λ s. HaveSame (l.list.items ++ flat_map reads s) (reads c.args.value.now)) stack l.invariant in
    rw (c.in_ok-push_own.ensures, c.in_ok-push_all.ensures) (reads-step l.list.items left c.arguments.result.now c.in-Some.next.now c.arguments.ensures.reads (reads c.args.value.now) before)

pub returns : goal.returns
unfolding seen
returns c =
    let l = c.loop-next in
    let none : length l.rest.items ≡ 0 = grind (arith, common_steps) in
    let nothing : map seen l.rest.items ≡ [] = ap (map seen) (nil_from_length l.rest.items none) in
    subst (λ s. HaveSame s (reads c.args.value.now)) (append-nil l.list.items) (subst (λ s. HaveSame (l.list.items ++ flat_map reads s) (reads c.args.value.now)) nothing l.invariant)
