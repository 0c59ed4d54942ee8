-- Clashes in a rule's computation that its production tells: a chain of a right-side occurrence, and a bare nonterminal.
use Rattle.std.specs.Prelude.{◌≡◌, ℕ, ℤ, ◌⊎◌, not, IsTrue, List, [], Option}
use Rattle.lido_base.specs.declared.kinds.Kind.TheVariants.{Inherited}
use Rattle.lido_syntax.specs.declared.spec.Name.{Name}
use Rattle.lido_syntax.specs.declared.spec.Comp.{Comp}
use Rattle.lido_syntax.specs.declared.spec.Expr.{Expr, Terminal, Read}
use Rattle.lido_syntax.specs.declared.spec.Place.{Place}
use Rattle.lido_syntax.specs.declared.spec.Place.TheVariants as place
use Rattle.lido_syntax.specs.declared.spec.RuleItem.{RuleItem}
use Rattle.lido_syntax.specs.declared.spec.Target.{Target}
use Rattle.lido_syntax.specs.declared.spec.Target.TheVariants as target
use Rattle.lido_syntax.specs.Attributes.{possible, IsOnSide}
use Rattle.lido_syntax.specs.Parts.{leaves_of}
use Rattle.lido_syntax.specs.Production.{name_of}
use Rattle.lido_symbols.specs.Uses.{is_coordinate_of_rule}
use Rattle.kind_clashes.specs.declared.sets.NameSets.{NameSets}
use Rattle.kind_clashes.specs.Comps.{is_chain_in, IsCompClash}
use Rattle.kind_clashes.specs.Least.{Among}
use Rattle.kind_clashes.specs.Names.{has}

module _ (sets : NameSets) (r : RuleItem) where
  -- a chain where all occurrences that the name can mean are on the right side
  abbrev pub IsSideClash : Place → Name → ℕ → Type 0
  IsSideClash (place.Named x i) a at = IsTrue (is_chain_in sets a) × (IsOnSide Inherited (possible r x i) × (at ≡ a.at))
  IsSideClash _ a at = ⊥

  abbrev pub IsTargetSideClash : Target → ℕ → Type 0
  IsTargetSideClash (target.Attr p a) at = IsSideClash p a at
  IsTargetSideClash _ at = ⊥

  module _ (texts : List (List ℕ)) where
    -- a bare name that is a nonterminal, and no coordinate
    abbrev pub IsBareClash : Name → Option ℤ → ℕ → Type 0
    IsBareClash x i at = IsTrue (not (is_coordinate_of_rule (record { texts = texts; patterns = [] }) r x i)) × (IsTrue (has sets.nonterminals (name_of x)) × (at ≡ x.at))

    abbrev pub IsLeafSideClash : Expr → ℕ → Type 0
    IsLeafSideClash (Terminal x i) at = IsBareClash x i at
    IsLeafSideClash (Read first p a) at = IsSideClash p a at
    IsLeafSideClash _ at = ⊥

    abbrev pub IsRuleCompClash : Comp → ℕ → Type 0
    IsRuleCompClash c at = IsCompClash sets c at ⊎ (IsTargetSideClash c.target at ⊎ Among IsLeafSideClash (leaves_of c) at)
