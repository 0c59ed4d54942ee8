-- The parts of the faults of the tables, as the code goes through them.
use Rattle.std.specs.Prelude.{◌≡◌, ℕ, ◌<◌, List, Some, slice_get, Contains}
use Rattle.lido_syntax.specs.declared.spec.Comp.{Comp}
use Rattle.lido_syntax.specs.declared.spec.RuleItem.{RuleItem}
use Rattle.lido_syntax.specs.declared.spec.Target.TheVariants as target

-- a later one of these rules with an earlier one's name
pub record IsDuplicateIn (rules : List RuleItem) (at : ℕ) : Type 0 where
  pub first : ℕ
  pub second : ℕ
  pub rule : RuleItem
  pub other : RuleItem
  pub before : first < second
  pub there : slice_get rules first ≡ Some rule
  pub behind : slice_get rules second ≡ Some other
  pub same : rule.name ≡ other.name
  pub place : at ≡ other.at

-- the computation is an output
abbrev pub IsOutAt : Comp → ℕ → Type 0
IsOutAt c at = (c.target ≡ target.Out) × (at ≡ c.at)

-- it is one behind this place
abbrev pub IsOutBehind : ℕ → Comp → ℕ → Type 0
IsOutBehind first c at = (c.target ≡ target.Out) × (first < c.at) × (at ≡ c.at)

-- an output behind another one
abbrev pub IsSecondOut : List Comp → ℕ → Type 0
IsSecondOut body at = (c : Comp) × (d : Comp) × Contains body c × Contains body d × (c.target ≡ target.Out) × (d.target ≡ target.Out) × (c.at < d.at) × (at ≡ d.at)
