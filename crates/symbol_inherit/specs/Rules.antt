-- What a rule computes itself, as an index has it.
use Rattle.std.specs.Prelude.{◌≡◌, ℕ, Some}
use Rattle.lido_syntax.specs.declared.spec.Spec.{Spec}
use Rattle.lido_syntax.specs.declared.spec.Comp.{Comp}
use Rattle.lido_syntax.specs.declared.spec.RuleItem.{RuleItem}
use Rattle.lido_syntax.specs.Computation.{InRule}
use Rattle.computation_aims.specs.Aims.{goal_of}
use Rattle.symbol_inherit.specs.Notes.{own_of}
use Rattle.symbol_inherit.specs.Index.{noted}
use Rattle.computation_aims.specs.declared.aims.Aim.{Aim}
use Rattle.symbol_inherit.specs.declared.notes.Own.{Own}
use Rattle.symbol_inherit.specs.declared.index.Index.{Index}

-- the index has the computation of each attribute and chain that the rule computes, and no other
pub record HasRule (spec : Spec) (r : RuleItem) (index : Index) : Type 0 where
  pub each : (k : ℕ) (aim : Aim) (own : Own) → noted index k aim ≡ Some own → (c : Comp) × InRule spec r k (goal_of aim) c × (own_of c ≡ own)
  pub all : (k : ℕ) (aim : Aim) (c : Comp) → InRule spec r k (goal_of aim) c → (own : Own) × (noted index k aim ≡ Some own)

-- the same at one occurrence
pub record HasRuleAt (spec : Spec) (r : RuleItem) (k : ℕ) (index : Index) : Type 0 where
  pub each : (aim : Aim) (own : Own) → noted index k aim ≡ Some own → (c : Comp) × InRule spec r k (goal_of aim) c × (own_of c ≡ own)
  pub all : (aim : Aim) (c : Comp) → InRule spec r k (goal_of aim) c → (own : Own) × (noted index k aim ≡ Some own)
