-- Nonterminals, terminals, the root and chains.
use Rattle.std.specs.Prelude.{◌≡◌, ℕ, ◌⊎◌, Bool, map, flat_map, Contains, IsTrue}
use Rattle.lido_base.specs.declared.value.ValueType.{ValueType}
use Rattle.lido_base.specs.declared.value.ValueType.TheVariants as type
use Rattle.lido_base.specs.Tree.{contains}
use Rattle.lido_syntax.specs.declared.spec.Spec.{Spec}
use Rattle.lido_syntax.specs.declared.spec.Typed1.{Typed1}
use Rattle.lido_syntax.specs.Production.{name_of, left_of, right_of}

module _ (spec : Spec) where
  -- a test for nonterminals: they stand on a left side
  abbrev pub is_nonterminal : ℕ → Bool
  is_nonterminal s = contains s (map left_of spec.rules)

  -- the symbol is a nonterminal
  abbrev pub IsNonterminal : ℕ → Type 0
  IsNonterminal s = IsTrue (is_nonterminal s)

  -- some right side has the symbol
  abbrev pub IsOnRightSide : ℕ → Type 0
  IsOnRightSide s = IsTrue (contains s (flat_map right_of spec.rules))

  -- the root is the nonterminal that stands on no right side; an accepted specification has one
  abbrev pub IsRoot : ℕ → Type 0
  IsRoot s = IsNonterminal s × ¬ IsOnRightSide s

  -- TERM declares the name, with this type
  abbrev pub IsTerm : ℕ → ValueType → Type 0
  IsTerm s ty = (x : Typed1) × Contains spec.terms x × (name_of x.name ≡ s) × (x.ty ≡ ty)

  -- a terminal with its type: a name that TERM declares, or another name on a right side, which is an int
  abbrev pub IsTerminal : ℕ → ValueType → Type 0
  IsTerminal s ty = ¬ IsNonterminal s × (IsTerm s ty ⊎ (IsOnRightSide s × ((other : ValueType) → ¬ IsTerm s other) × (ty ≡ type.Int)))

  -- CHAIN declares the name
  abbrev pub IsChain : ℕ → Type 0
  IsChain c = IsTrue (contains c (map (λ x. name_of x.name) spec.chains))

  -- CHAIN declares the name, with this type
  abbrev pub IsTypedChain : ℕ → ValueType → Type 0
  IsTypedChain c ty = (x : Typed1) × Contains spec.chains x × (name_of x.name ≡ c) × (x.ty ≡ ty)
