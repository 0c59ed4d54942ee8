-- Places and bare names of a rule's computations that mean no occurrence.
use Rattle.std.specs.Prelude.{◌≡◌, ℕ, ℤ, ◌⊎◌, not, IsTrue, List, [], Option, None}
use Rattle.lido_base.specs.Environment.{Environment}
use Rattle.lido_syntax.specs.declared.spec.Name.{Name}
use Rattle.lido_syntax.specs.declared.spec.Comp.{Comp}
use Rattle.lido_syntax.specs.declared.spec.Expr.{Expr, Terminal, Read}
use Rattle.lido_syntax.specs.declared.spec.Place.{Place}
use Rattle.lido_syntax.specs.declared.spec.Place.TheVariants as place
use Rattle.lido_syntax.specs.declared.spec.RuleItem.{RuleItem}
use Rattle.lido_syntax.specs.declared.spec.Target.{Target}
use Rattle.lido_syntax.specs.declared.spec.Target.TheVariants as target
use Rattle.lido_syntax.specs.Parts.{leaves_of}
use Rattle.lido_syntax.specs.Production.{occurrence}
use Rattle.lido_symbols.specs.Uses.{is_coordinate_of_rule}
use Rattle.kind_clashes.specs.Least.{Among}

-- these texts, and no patterns: names of symbols and coordinates ask no more
abbrev pub of_texts : List (List ℕ) → Environment
of_texts texts = record { texts = texts; patterns = [] }

abbrev pub IsBadPlace : RuleItem → Place → ℕ → Type 0
IsBadPlace r (place.Named x i) at = (occurrence r x i ≡ None) × (at ≡ x.at)
IsBadPlace r _ at = ⊥

abbrev pub IsBadTarget : RuleItem → Target → ℕ → Type 0
IsBadTarget r (target.Attr p a) at = IsBadPlace r p at
IsBadTarget r _ at = ⊥

module _ (texts : List (List ℕ)) (r : RuleItem) where
  abbrev pub IsBadBare : Name → Option ℤ → ℕ → Type 0
  IsBadBare x i at = IsTrue (not (is_coordinate_of_rule (of_texts texts) r x i)) × (occurrence r x i ≡ None) × (at ≡ x.at)

  abbrev pub IsBadLeaf : Expr → ℕ → Type 0
  IsBadLeaf (Terminal x i) at = IsBadBare x i at
  IsBadLeaf (Read first p a) at = IsBadPlace r p at
  IsBadLeaf _ at = ⊥

  abbrev pub IsBadComp : Comp → ℕ → Type 0
  IsBadComp c at = IsBadTarget r c.target at ⊎ Among IsBadLeaf (leaves_of c) at
