use Rattle.std.specs.Prelude.{Contains}
use Rattle.std.proofs.Common.{inl, inr, sym, subst}
use Rattle.std.proofs.lemmas.List.{take_all}
use Rattle.std.proofs.lemmas.List.Elements.{Contains-append_left}
use Rattle.flat_grammar.proofs.Lists.{contains-nil}
use Rattle.visit_sequences.proofs.BitsLemmas.{one-more, taken-cases}
use Rattle.visit_sequences.proofs.given.all_at.Goals as goal

pub loop-attr-preserved : goal.loop-attr-preserved
loop-attr-preserved c = λ u e m. elim (taken-cases c.args.attrs.now c.loop-attr.attr-index _ u.attr c.loop-attr-test.true m) [
  | inl before ↦ subst (λ l. Contains l u) (sym c.in_ok-push.ensures.items) (Contains-append_left c.loop-attr.given.items _ u (c.loop-attr.invariant u e before))
  | inr is ↦ one-more c.loop-attr.given.items c.push.new.self.items _ u c.in_ok-push.ensures.items (sym e) is
]

pub loop-attr-init : goal.loop-attr-init
loop-attr-init c = λ u e m. absurd (contains-nil u.attr m)

pub returns : goal.returns
returns c = λ u e m. c.loop-attr.invariant u e (subst (λ l. Contains l u.attr) (sym (take_all c.loop-attr.attr-index c.args.attrs.now c.loop-attr-test.false)) m)
