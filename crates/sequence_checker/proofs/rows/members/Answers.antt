use Rattle.std.proofs.Common.{◌≡◌, ◌||◌, ◌∙◌, sym, ap, subst}
use Rattle.flat_grammar.specs.declared.flat.Occ.{Occ}
use Rattle.flat_grammar.specs.WellFormed.{is_same_occ}
use Rattle.sequence_checker.specs.Sets.{has}
use Rattle.sequence_checker.proofs.RowLemmas.{comes-twice, one-more-member, all-members}
use Rattle.sequence_checker.proofs.rows.members.Goals as goal

pub returns-then-has : goal.returns-then-has
returns-then-has c = comes-twice c.args.symbol.now c.args.kind c.args.attrs.now c.loop-attr.attr-index (record { 0 = 0 }) c.loop-attr-test.true c.loop-attr.set c.loop-attr.invariant
    (sym (ap (λ o. has c.loop-attr.set o) c.at_left.ensures) ∙ (sym c.has.ensures ∙ c.if-has.true))

pub loop-attr-preserved : goal.loop-attr-preserved
loop-attr-preserved c = one-more-member c.args.symbol.now c.args.kind c.args.attrs.now c.loop-attr.attr-index (record { 0 = 0 }) c.loop-attr-test.true c.loop-attr.set c.loop-attr.invariant c.add.new.self
    (c.is_of_kind.ensures.0 c.if-not-is_of_kind.false) (sym (ap (λ o. has c.loop-attr.set o) c.at_left.ensures) ∙ (sym c.has.ensures ∙ c.if-has.false))
    (subst (λ o. (p : Occ) → has c.add.new.self p ≡ (is_same_occ o p || has c.loop-attr.set p)) c.at_left-in-loop-attr.ensures c.in_ok-add.ensures)

pub returns : goal.returns
returns c = all-members c.args.symbol.now c.args.kind c.args.attrs.now c.loop-attr.attr-index c.loop-attr.set c.loop-attr-test.false c.loop-attr.invariant
