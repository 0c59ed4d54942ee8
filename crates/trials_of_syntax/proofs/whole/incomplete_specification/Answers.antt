use Rattle.std.specs.Prelude.{None, Contains, refl, [], ◌∷◌}
use Rattle.std.proofs.Common.{arith, inl, inr}
use Rattle.lido_base.specs.declared.kinds.Kind.{Kind}
use Rattle.lido_base.specs.declared.kinds.Kind.TheVariants.{Synthesized}
use Rattle.lido_syntax.specs.Attributes as attributes
use Rattle.lido_syntax.specs.Attributes.{uses, Has, HasKind, Tells, IsUse}
use Rattle.lido_syntax.specs.Computation as goals
use Rattle.lido_syntax.specs.Computation.{HasComputation}
use Rattle.lido_syntax.proofs.ExpressionLemmas.{reads-Call}
use Rattle.trials_of_syntax.specs.SumOfItems.{without_a_number, top_rule, out, Item, Num, n}
use Rattle.trials_of_syntax.specs.Writing.{name, named, plain_rule}
use Rattle.trials_of_syntax.proofs.RulesOnly.{only_rules, none_inherits, not_declared_kind, tells_within}
use Rattle.trials_of_syntax.proofs.whole.incomplete_specification.Goals as goal

used : Contains (uses out) (named Item, name n)
used = simp (reads-Call) (0, omega arith, refl)

-- the sum names the number
has : Has without_a_number Item n
has = inl (attributes.by_name out (name Item) None (inl (top_rule, (0, omega arith, refl), (0, omega arith, refl))) (name n, used, refl, (λ h. cc)) refl)

untold : (kind : Kind) → ¬ Tells without_a_number Item n kind
untold kind = tells_within without_a_number.rules without_a_number.attrs without_a_number.terms without_a_number.chains (λ kind. ⊥) ((nothing, tt), (tt, tt)) Item n kind
  where
    nothing : (kind : Kind) → ¬ attributes.IsOnSide kind []
    nothing Kind.Synthesized h = h
    nothing Kind.Inherited h = h

synthesized : HasKind without_a_number Item n Synthesized
synthesized = HasKind.by_default (not_declared_kind without_a_number.rules without_a_number.attrs without_a_number.terms without_a_number.chains (refl, tt) Item n) none
  where
    none : (kind : Kind) → ¬ attributes.OfClass without_a_number (λ x. Tells without_a_number x n kind) Item
    none kind (inl h) = untold kind h
    none kind (inr (class, i, h)) = none_inherits without_a_number.rules without_a_number.attrs without_a_number.terms without_a_number.chains Item class i

missing : ¬ HasComputation without_a_number (plain_rule Item (Num ∷ []) []) 0 Item (goals.Synthesized n)
missing (h, c, force) = let in_rule = (only_rules without_a_number.rules without_a_number.attrs without_a_number.terms without_a_number.chains (plain_rule Item (Num ∷ []) []) 0 Item (goals.Synthesized n) h c force).1 in omega (arith, in_rule.0.1)

pub returns : goal.returns
returns c = λ complete. missing ((complete.synthesized (plain_rule Item (Num ∷ []) []) n (1, omega arith, refl) has).0 synthesized)
