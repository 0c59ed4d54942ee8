-- The faults of the tables, over the syntax tree: of each kind, which there are. Places are byte offsets.
use Rattle.std.specs.Prelude.{◌≡◌, ℤ, ℕ, ◌+◌, ◌<◌, IsTrue, List, [], ◌∷◌, map, filter, length, sum_by, if◌then◌else◌, Option, Some, None, slice_get, Contains, AllPairs}
use Rattle.lido_base.specs.declared.kinds.Many.{Many}
use Rattle.lido_base.specs.declared.kinds.Many.TheVariants as many
use Rattle.lido_base.specs.declared.value.ValueType.{ValueType}
use Rattle.lido_base.specs.Environment.{Environment}
use Rattle.lido_base.specs.Faults.{AtPlace}
use Rattle.lido_syntax.specs.declared.fault.SpecFault.{SpecFault}
use Rattle.lido_syntax.specs.declared.fault.SpecFault.TheVariants as fault
use Rattle.lido_syntax.specs.declared.spec.Spec.{Spec}
use Rattle.lido_syntax.specs.declared.spec.Name.{Name}
use Rattle.lido_syntax.specs.declared.spec.Comp.{Comp}
use Rattle.lido_syntax.specs.declared.spec.RuleItem.{RuleItem}
use Rattle.lido_syntax.specs.declared.spec.SymbolItem.{SymbolItem}
use Rattle.lido_syntax.specs.declared.spec.Target.TheVariants as target
use Rattle.lido_syntax.specs.declared.spec.Place.{Place}
use Rattle.lido_syntax.specs.declared.spec.Place.TheVariants as place
use Rattle.lido_syntax.specs.declared.spec.Expr.{Terminal, Read}
use Rattle.lido_syntax.specs.Production.{name_of, left_of, right_of, symbols_of, occurrence}
use Rattle.lido_syntax.specs.Parts.{leaves_of}
use Rattle.lido_syntax.specs.Symbols.{IsTerm, IsRoot}
use Rattle.lido_syntax.specs.Computation.{Goal, Output, InRule, InSymbol}
use Rattle.lido_symbols.specs.Uses.{is_coordinate_of_rule, is_coordinate_of_symbol, symbol_uses, computations, all_constituents}
use Rattle.lido_symbols.specs.Numbers.{different}
use Rattle.kind_clashes.specs.KindClash.{IsKindClash}
use Rattle.lido_symbols.specs.Classes.{IsClass}

-- a place of an attribute in a computation, target or read, and where in the text it stands
abbrev pub place_at : Place → ℕ → ℕ
place_at (place.Named x i) at = x.at
place_at _ at = at

pub data IsPlaceOf (c : Comp) (at : ℕ) (p : Place) : Type 0 where
  targeted : (a : Name) → c.target ≡ target.Attr p a → at ≡ place_at p c.at → IsPlaceOf c at p
  read : (first : ℕ) (a : Name) → Contains (leaves_of c) (Read first p a) → at ≡ place_at p first → IsPlaceOf c at p

module _ (spec : Spec) (env : Environment) where
  -- a bare name in a rule's computation, or in a symbol's, that is no coordinate
  abbrev pub IsBareInRule : RuleItem → Comp → Name → Option ℤ → Type 0
  IsBareInRule r c x i = Contains (leaves_of c) (Terminal x i) × ¬ IsTrue (is_coordinate_of_rule env r x i)

  abbrev pub IsBareInSymbol : Comp → Name → Option ℤ → Type 0
  IsBareInSymbol c x i = Contains (leaves_of c) (Terminal x i) × ¬ IsTrue (is_coordinate_of_symbol env x i)

  -- a name means something: it is a class, TERM declares it, or a production has it
  pub data IsKnown (s : ℕ) : Type 0 where
    class : IsClass spec s → IsKnown s
    declared : (ty : ValueType) → IsTerm spec s ty → IsKnown s
    in_production : (r : RuleItem) → Contains spec.rules r → Contains (symbols_of r) s → IsKnown s

  -- in a rule's computation a place has to name a symbol of the production, but for TAIL
  abbrev pub IsForeign : RuleItem → Place → Type 0
  IsForeign r (place.Named x i) = ¬ Contains (symbols_of r) (name_of x)
  IsForeign r place.Tail = ⊥
  IsForeign r _ = Unit {0}

  -- UnknownSymbol: a name that means nothing; in a rule's computation a place or a bare name that isn't of the production; in a
  -- symbol's computation a place with a name, or a bare name.
  pub data IsUnknown (at : ℕ) : Type 0 where
    nowhere : (s : ℕ) → Contains (symbol_uses spec env) (at, s) → ¬ IsKnown s → IsUnknown at
    in_rule : (r : RuleItem) (c : Comp) (p : Place) → Contains spec.rules r → Contains r.body c → IsPlaceOf c at p → IsForeign r p → IsUnknown at
    bare_in_rule : (r : RuleItem) (c : Comp) (x : Name) (i : Option ℤ) → Contains spec.rules r → Contains r.body c → IsBareInRule r c x i → ¬ Contains (symbols_of r) (name_of x) → at ≡ x.at → IsUnknown at
    in_symbol : (item : SymbolItem) (c : Comp) (x : Name) (i : Option ℤ) → Contains spec.symbols item → Contains item.body c → IsPlaceOf c at (place.Named x i) → IsUnknown at
    bare_in_symbol : (item : SymbolItem) (c : Comp) (x : Name) (i : Option ℤ) → Contains spec.symbols item → Contains item.body c → IsBareInSymbol c x i → at ≡ x.at → IsUnknown at

  -- DuplicateRule: a later rule with an earlier one's name
  pub data IsDuplicate (at : ℕ) : Type 0 where
    later : (i j : ℕ) (r q : RuleItem) → i < j → slice_get spec.rules i ≡ Some r → slice_get spec.rules j ≡ Some q → r.name ≡ q.name → at ≡ q.at → IsDuplicate at

  -- RootNotOne: so many nonterminals stand on no right side, and they aren't one
  pub record AreRoots (roots : List ℕ) : Type 0 where
    pub each : (s : ℕ) → Contains roots s → IsRoot spec s
    pub all : (s : ℕ) → IsRoot spec s → Contains roots s
    pub once : AllPairs (λ s q. s ≡ q → ⊥) roots

  abbrev pub IsRootNotOne : SpecFault → Type 0
  IsRootNotOne f = (roots : List ℕ) × AreRoots roots × (length roots ≡ 1 → ⊥) × (f ≡ fault.RootNotOne (length roots))

  -- BadIndex: in a rule's computation a place or a bare name that means no occurrence, since its index is none of them, or is
  -- missing where there are several, or since it names an element of a list
  pub data IsBadIndex (at : ℕ) : Type 0 where
    of_place : (r : RuleItem) (c : Comp) (x : Name) (i : Option ℤ) → Contains spec.rules r → Contains r.body c → IsPlaceOf c at (place.Named x i) → occurrence r x i ≡ None → IsBadIndex at
    bare : (r : RuleItem) (c : Comp) (x : Name) (i : Option ℤ) → Contains spec.rules r → Contains r.body c → IsBareInRule r c x i → occurrence r x i ≡ None → at ≡ x.at → IsBadIndex at

  -- DoubleComputation: the later of two computations of one target in a rule, or in the bodies of a symbol. An output is no target.
  pub data IsDouble (at : ℕ) : Type 0 where
    in_rule : (r : RuleItem) (k : ℕ) (g : Goal) (c d : Comp) → Contains spec.rules r → InRule spec r k g c → InRule spec r k g d → (g ≡ Output → ⊥) → c.at < d.at → at ≡ d.at → IsDouble at
    in_symbol : (s : ℕ) (g : Goal) (c d : Comp) → InSymbol spec s g c → InSymbol spec s g d → c.at < d.at → at ≡ d.at → IsDouble at

  -- BadOut: a PTGOut in a symbol's body, in a rule whose left side isn't the root, or after another one of its rule
  abbrev pub IsOut : Comp → Type 0
  IsOut c = c.target ≡ target.Out

  pub data IsBadOut (at : ℕ) : Type 0 where
    in_symbol : (item : SymbolItem) (c : Comp) → Contains spec.symbols item → Contains item.body c → IsOut c → at ≡ c.at → IsBadOut at
    not_at_root : (r : RuleItem) (c : Comp) → Contains spec.rules r → Contains r.body c → IsOut c → ¬ IsRoot spec (left_of r) → at ≡ c.at → IsBadOut at
    second : (r : RuleItem) (c d : Comp) → Contains spec.rules r → Contains r.body c → Contains r.body d → IsOut c → IsOut d → c.at < d.at → at ≡ d.at → IsBadOut at

  -- TooMany: symbols with the cells, plain rules, symbols on one right side, or computations with the CONSTITUENTS
  -- the different names of symbols, and a cell for each list
  abbrev pub symbol_count : ℕ
  symbol_count = length (different (map (λ (u : ℕ × ℕ). u.1) (symbol_uses spec env))) + length (filter (λ (r : RuleItem). r.list) spec.rules)

  -- a list has a rule for each different element in its cell, and one for its end
  abbrev pub plain_count : RuleItem → ℕ
  plain_count r = if r.list then length (different (right_of r)) + 2 else 1

  pub data IsTooMany : Many → Type 0 where
    symbols : 512 < symbol_count → IsTooMany many.Symbols
    rules : 1024 < sum_by plain_count spec.rules → IsTooMany many.Rules
    elements : (r : RuleItem) → Contains spec.rules r → 1024 < length (right_of r) → IsTooMany many.Elements
    computations_and_constituents : 65536 < length (computations spec) + length (all_constituents spec) → IsTooMany many.Computations

  abbrev pub IsTooManyOf : Many → SpecFault → Type 0
  IsTooManyOf what f = IsTooMany what × (f ≡ fault.TooMany what)

  -- the faults of the tables, in order
  abbrev pub table_faults : List (SpecFault → Type 0)
  table_faults =
      AtPlace (λ at. fault.UnknownSymbol at) IsUnknown ∷ AtPlace (λ at. fault.DuplicateRule at) IsDuplicate ∷ IsRootNotOne
      ∷ AtPlace (λ at. fault.KindClash at) (IsKindClash spec env) ∷ AtPlace (λ at. fault.BadIndex at) IsBadIndex
      ∷ AtPlace (λ at. fault.DoubleComputation at) IsDouble ∷ AtPlace (λ at. fault.BadOut at) IsBadOut
      ∷ IsTooManyOf many.Symbols ∷ IsTooManyOf many.Rules ∷ IsTooManyOf many.Elements ∷ IsTooManyOf many.Computations ∷ []
