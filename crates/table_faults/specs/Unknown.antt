-- Names that mean nothing where they stand, by the sets of names.
use Rattle.std.specs.Prelude.{◌≡◌, ℕ, ℤ, ◌⊎◌, Bool, not, ◌||◌, IsTrue, List, Option}
use Rattle.lido_base.specs.Tree.{contains}
use Rattle.lido_syntax.specs.declared.spec.Name.{Name}
use Rattle.lido_syntax.specs.declared.spec.Comp.{Comp}
use Rattle.lido_syntax.specs.declared.spec.Expr.{Expr, Terminal, Read}
use Rattle.lido_syntax.specs.declared.spec.Place.{Place}
use Rattle.lido_syntax.specs.declared.spec.Place.TheVariants as place
use Rattle.lido_syntax.specs.declared.spec.RuleItem.{RuleItem}
use Rattle.lido_syntax.specs.declared.spec.Target.{Target}
use Rattle.lido_syntax.specs.declared.spec.Target.TheVariants as target
use Rattle.lido_syntax.specs.Parts.{leaves_of}
use Rattle.lido_syntax.specs.Production.{name_of, symbols_of}
use Rattle.lido_symbols.specs.Uses.{is_coordinate_of_rule, is_coordinate_of_symbol}
use Rattle.kind_clashes.specs.declared.sets.NameSets.{NameSets}
use Rattle.kind_clashes.specs.Least.{Among}
use Rattle.kind_clashes.specs.Names.{has}
use Rattle.table_faults.specs.Indices.{of_texts}

-- a class, declared by TERM, or in a production
abbrev pub is_known_in : NameSets → ℕ → Bool
is_known_in sets s = (has sets.classes s || has sets.declared s) || (has sets.nonterminals s || has sets.right_sides s)

abbrev pub IsUnknownName : NameSets → Name → ℕ → Type 0
IsUnknownName sets x at = IsTrue (not (is_known_in sets (name_of x))) × (at ≡ x.at)

-- the name isn't of the production
abbrev pub IsStrange : RuleItem → Name → ℕ → Type 0
IsStrange r x at = IsTrue (not (contains (name_of x) (symbols_of r))) × (at ≡ x.at)

-- a place in a rule's computation, which begins there, that names no symbol of the production
abbrev pub IsForeignPlace : RuleItem → ℕ → Place → ℕ → Type 0
IsForeignPlace r first (place.Named x i) at = IsStrange r x at
IsForeignPlace r first place.Tail at = ⊥
IsForeignPlace r first _ at = at ≡ first

abbrev pub IsForeignTarget : RuleItem → ℕ → Target → ℕ → Type 0
IsForeignTarget r first (target.Attr p a) at = IsForeignPlace r first p at
IsForeignTarget r first _ at = ⊥

-- a place with a name, in a symbol's computation
abbrev pub IsNamedPlace : Place → ℕ → Type 0
IsNamedPlace (place.Named x i) at = at ≡ x.at
IsNamedPlace _ at = ⊥

abbrev pub IsNamedTarget : Target → ℕ → Type 0
IsNamedTarget (target.Attr p a) at = IsNamedPlace p at
IsNamedTarget _ at = ⊥

module _ (texts : List (List ℕ)) where
  abbrev pub IsForeignBare : RuleItem → Name → Option ℤ → ℕ → Type 0
  IsForeignBare r x i at = IsTrue (not (is_coordinate_of_rule (of_texts texts) r x i)) × IsStrange r x at

  abbrev pub IsForeignLeaf : RuleItem → Expr → ℕ → Type 0
  IsForeignLeaf r (Terminal x i) at = IsForeignBare r x i at
  IsForeignLeaf r (Read first p a) at = IsForeignPlace r first p at
  IsForeignLeaf r _ at = ⊥

  abbrev pub IsForeignComp : RuleItem → Comp → ℕ → Type 0
  IsForeignComp r c at = IsForeignTarget r c.at c.target at ⊎ Among (IsForeignLeaf r) (leaves_of c) at

  abbrev pub IsNamedLeaf : Expr → ℕ → Type 0
  IsNamedLeaf (Terminal x i) at = IsTrue (not (is_coordinate_of_symbol (of_texts texts) x i)) × (at ≡ x.at)
  IsNamedLeaf (Read first p a) at = IsNamedPlace p at
  IsNamedLeaf _ at = ⊥

  abbrev pub IsNamedComp : Comp → ℕ → Type 0
  IsNamedComp c at = IsNamedTarget c.target at ⊎ Among IsNamedLeaf (leaves_of c) at
