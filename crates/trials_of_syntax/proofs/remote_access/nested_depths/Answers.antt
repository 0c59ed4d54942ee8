use Rattle.std.specs.Prelude.{◌≡◌, ℕ, false, refl}
use Rattle.lido_base.specs.Operations.{operate}
use Rattle.lido_base.specs.Tree.{ancestors}
use Rattle.lido_base.specs.Plain.{Void}
use Rattle.lido_syntax.specs.Computation.{by_rule}
use Rattle.lido_syntax.specs.Sets.{Sets}
use Rattle.lido_syntax.proofs.ExpressionLemmas.{value-Call}
use Rattle.trials_of_syntax.specs.Writing.{env}
use Rattle.trials_of_syntax.specs.NestedDepths.{spec, tree, depths, block_rule}
use Rattle.trials_of_syntax.proofs.RulesOnly.{inherits-false}
use Rattle.trials_of_syntax.proofs.remote_access.nested_depths.Goals as goal

module _ (sets : Sets spec) where
  none : (s class : ℕ) → sets.inherits s class ≡ false
  none = inherits-false spec.rules spec.attrs spec.terms spec.chains sets

pub returns : goal.returns
unfolding operate ancestors
returns c = record {
  outer = λ sets. simp (value-Call spec sets env tree depths by_rule block_rule 1 1 (λ c. Void), none sets) refl;
  middle = λ sets. simp (value-Call spec sets env tree depths by_rule block_rule 1 2 (λ c. Void)) refl;
  inner = λ sets. simp (value-Call spec sets env tree depths by_rule block_rule 1 3 (λ c. Void)) refl;
  found = λ sets. refl;
  above = λ sets. simp (none sets) refl;
  nothing = λ sets. refl;
}
