-- Pairs of a remote list that have a type, and the first that hasn't it.
use Rattle.std.specs.Prelude.{◌≡◌, ℕ, List, ◌++◌, ◌∷◌, All}
use Rattle.lido_base.specs.declared.value.ValueType.{ValueType}
use Rattle.lido_syntax.specs.declared.spec.Spec.{Spec}
use Rattle.lido_syntax.specs.declared.spec.Pair.{Pair}
use Rattle.lido_syntax.specs.Sets.{Sets}
use Rattle.expr_types.specs.Typing.{IsPairType}

module _ (spec : Spec) (ty : ValueType) where
  -- the pair has the type, whatever decides which classes a symbol inherits
  abbrev pub IsAlike : Pair → Type 0
  IsAlike p = (sets : Sets spec) → IsPairType spec sets ty p

  abbrev pub AreAlike : List Pair → Type 0
  AreAlike pairs = All IsAlike pairs

  -- the first pair that hasn't the type stands there
  pub record IsFirstUnlike (pairs : List Pair) (at : ℕ) : Type 0 where
    pub front : List Pair
    pub other : Pair
    pub back : List Pair
    pub split : pairs ≡ front ++ other ∷ back
    pub alike : AreAlike front
    pub unlike : (sets : Sets spec) → IsPairType spec sets ty other → ⊥
    pub place : other.sym.at ≡ at
