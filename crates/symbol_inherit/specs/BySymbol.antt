-- The computation that a symbol has for a goal by its own bodies or by those of its classes.
use Rattle.std.specs.Prelude.{◌≡◌, ℕ}
use Rattle.lido_syntax.specs.declared.spec.Spec.{Spec}
use Rattle.lido_syntax.specs.declared.spec.Comp.{Comp}
use Rattle.lido_syntax.specs.Computation.{Goal, InSymbol, HasInSymbol, IsLeft}
use Rattle.rule_tables.specs.Needs.{Tables}
use Rattle.rule_tables.specs.InForceFaults.{AreFirstTwo}
use Rattle.symbol_inherit.specs.declared.standing.Standing.{Standing}
use Rattle.symbol_inherit.specs.declared.standing.Standing.TheVariants as standing

module _ (spec : Spec) (s : ℕ) (goal : Goal) where
  -- its own, else that of the one class that is left
  pub data BySymbol : Comp → Type 0 where
    own : {c : Comp} → InSymbol spec s goal c → BySymbol c
    inherited : {c : Comp} (class : ℕ) → ¬ HasInSymbol spec s goal → IsLeft spec s goal class → ((other : ℕ) → IsLeft spec s goal other → other ≡ class)
        → InSymbol spec class goal c → BySymbol c

  -- what is found says so
  abbrev pub Says : Tables spec → Standing → Type 0
  Says T standing.Missing = ((c : Comp) → ¬ BySymbol c) × ¬ HasInSymbol spec s goal × ((class : ℕ) → ¬ IsLeft spec s goal class)
  Says T (standing.Computed n) = (c : Comp) × BySymbol c × (c.number ≡ n)
  Says T (standing.Clash first second) = ¬ HasInSymbol spec s goal × AreFirstTwo spec T s goal first second
