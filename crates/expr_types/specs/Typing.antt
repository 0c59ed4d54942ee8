-- Types of expressions (LIDO, expressions and remote access; the table of types is this profile's own), as a judgement: this
-- expression has this type in this context.
use Rattle.std.specs.Prelude.{◌≡◌, ℕ, ℤ, ◌⊎◌, if◌then◌else◌, List, [], ◌∷◌, map, Option, Some, None, option_map, All, Contains, IsTrue, codes}
use Rattle.std.specs.Str.{bytes_eq}
use Rattle.lido_base.specs.declared.value.ValueType.{ValueType}
use Rattle.lido_base.specs.declared.value.ValueType.TheVariants as type
use Rattle.lido_base.specs.Environment.{Environment}
use Rattle.lido_base.specs.Types.{Signature, of_types, every_type, signatures}
use Rattle.lido_syntax.specs.declared.spec.Spec.{Spec}
use Rattle.lido_syntax.specs.declared.spec.Name.{Name}
use Rattle.lido_syntax.specs.declared.spec.Pair.{Pair}
use Rattle.lido_syntax.specs.declared.spec.With.{With}
use Rattle.lido_syntax.specs.declared.spec.RuleItem.{RuleItem}
use Rattle.lido_syntax.specs.declared.spec.Place.{Place}
use Rattle.lido_syntax.specs.declared.spec.Place.TheVariants as place
use Rattle.lido_syntax.specs.declared.spec.Expr.{Expr, Int, Str, Bool as Truth, Terminal, Read, Including, Constituents, Call', Row_of-Expr, end_of-Expr, more_of-Expr}
use Rattle.lido_syntax.specs.Production.{name_of}
use Rattle.lido_syntax.specs.Symbols.{IsTerminal, IsNonterminal, IsChain, IsTypedChain}
use Rattle.lido_syntax.specs.Attributes.{HasType}
use Rattle.lido_syntax.specs.Sets.{Sets, stands_for}
use Rattle.lido_syntax.specs.Computation.{Holder}
use Rattle.lido_syntax.specs.Coordinates.{coordinate_named}
use Rattle.lido_syntax.specs.Functions.{text_of, operation_of}

-- IF takes a bool and two of one type, and gives that type.
abbrev pub choices : List Signature
choices = map (λ ty. of_types (type.Bool ∷ ty ∷ ty ∷ []) ty) every_type

-- the type of the last argument, which ORDER gives
abbrev pub last_type : List ValueType → Option ValueType
last_type [] = None
last_type (ty ∷ []) = Some ty
last_type (ty ∷ u ∷ us) = last_type (u ∷ us)

-- What a name calls: a function with rows of types, or ORDER, which takes any arguments, one at least.
pub data Function : Type 0 where
  WithRows : List Signature → Function
  Order : Function

-- a function takes arguments of these types, and gives a result of that type
abbrev pub Gives : Function → List ValueType → ValueType → Type 0
Gives (WithRows rows) args ty = Contains rows (of_types args ty)
Gives Order args ty = last_type args ≡ Some ty

module _ (env : Environment) where
  -- the function that a name calls, if there is one
  abbrev pub function_of : Name → Option Function
  function_of f =
      if bytes_eq (text_of env (name_of f)) (codes "IF") then Some (WithRows choices)
      else if bytes_eq (text_of env (name_of f)) (codes "ORDER") then Some Order
      else option_map (λ o. WithRows (signatures env.patterns o)) (operation_of env (text_of env (name_of f)))

  -- the name calls a function that takes arguments of these types, and gives a result of that type
  abbrev pub IsCall : Name → List ValueType → ValueType → Type 0
  IsCall f args ty = (function : Function) × (function_of f ≡ Some function) × Gives function args ty

module _ (spec : Spec) (sets : Sets spec) where
  -- The attribute of a pair has this type on the symbol that the pair names, and on each nonterminal for which a class stands there.
  abbrev pub IsPairType : ValueType → Pair → Type 0
  IsPairType ty p = HasType spec (name_of p.sym) (name_of p.attr) ty
      × ((s : ℕ) → IsNonterminal spec s → IsTrue (stands_for spec sets.inherits s p.sym) → HasType spec s (name_of p.attr) ty)

  -- the pairs of a remote list, of which there is at least one, have this type
  abbrev pub ArePairTypes : List Pair → ValueType → Type 0
  ArePairTypes [] ty = ⊥
  ArePairTypes (p ∷ ps) ty = All (IsPairType ty) (p ∷ ps)

  module _ (env : Environment) where
    -- WITH (t, comb, single, null): comb takes t and t, single what the sources have, and null nothing; each gives t
    pub record IsFold (pairs : List Pair) (with : With) : Type 0 where
      pub source : ValueType
      pub sources : ArePairTypes pairs source
      pub comb : IsCall env with.comb (with.ty ∷ with.ty ∷ []) with.ty
      pub single : IsCall env with.single (source ∷ []) with.ty
      pub null : IsCall env with.null [] with.ty

    -- a CONSTITUENTS without WITH is VOID, whatever its pairs are; one with WITH has the type that this names
    abbrev pub IsGathered : List Pair → Option With → ValueType → Type 0
    IsGathered pairs None ty = ty ≡ type.Void
    IsGathered pairs (Some with) ty = IsFold pairs with × (ty ≡ with.ty)

    -- In a computation in a body of that holder, in force in the rule at an occurrence of the symbol `own`.
    module _ (holder : Holder) (r : RuleItem) (own : ℕ) where
      -- the symbol at a place
      abbrev pub symbol_of : Place → ℕ
      symbol_of (place.Named x i) = name_of x
      symbol_of _ = own

      -- a chain has its type at every place, and an attribute that on the place's symbol
      abbrev pub IsReadType : Place → Name → ValueType → Type 0
      IsReadType p a ty = IsTypedChain spec (name_of a) ty ⊎ (¬ IsChain spec (name_of a) × HasType spec (symbol_of p) (name_of a) ty)

      -- a coordinate is an int, and another bare name is a terminal
      abbrev pub IsBareType : Name → Option ℤ → ValueType → Type 0
      IsBareType x i ty = elim (coordinate_named env holder r x i) [ Some part ↦ ty ≡ type.Int | None ↦ IsTerminal spec (name_of x) ty ]

      abbrev mutual
        pub HasExprType : Expr → ValueType → Type 0
        HasExprType (Int at z) ty = ty ≡ type.Int
        HasExprType (Str at s) ty = ty ≡ type.Str
        HasExprType (Truth at b) ty = ty ≡ type.Bool
        HasExprType (Terminal x i) ty = IsBareType x i ty
        HasExprType (Read at p a) ty = IsReadType p a ty
        HasExprType (Including at pairs) ty = ArePairTypes pairs ty
        HasExprType (Constituents k) ty = IsGathered k.pairs k.with ty
        HasExprType (Call' f shape args) ty = (types : List ValueType) × HaveTypes args types × IsCall env f types ty

        pub HaveTypes : {m : _} → Row_of-Expr m → List ValueType → Type 0
        HaveTypes end_of-Expr [] = Unit {0}
        HaveTypes (more_of-Expr e es) (ty ∷ types) = HasExprType e ty × HaveTypes es types
        HaveTypes _ _ = ⊥
