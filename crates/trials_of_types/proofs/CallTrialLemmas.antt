-- What the functions of the trials take.
use Rattle.std.specs.Prelude.{◌≡◌, ◌⊎◌, ◌++◌, List, [], ◌∷◌, Contains, refl, Some, unwrap_or}
use Rattle.std.proofs.Common.{ap, subst, inl, inr}
use Rattle.lido_base.proofs.Lists.{contains-nil, contains-cons}
use Rattle.lido_base.specs.declared.value.ValueType.{ValueType}
use Rattle.lido_base.specs.declared.value.ValueType.TheVariants as type
use Rattle.lido_base.specs.Types.{Signature, of_types}
use Rattle.lido_syntax.specs.declared.spec.Expr.{Expr}
use Rattle.expr_types.specs.Typing.{choices}
use Rattle.expr_types.specs.Calls.{HaveEach}

abbrev pub IsInt : ValueType → Type 0
IsInt type.Int = Unit {0}
IsInt _ = ⊥

abbrev pub IsStr : ValueType → Type 0
IsStr type.Str = Unit {0}
IsStr _ = ⊥

pub int-str : type.Int ≡ type.Str → ⊥
int-str e = subst IsInt e tt

-- what holds of each row in turn holds of a row that is among them
abbrev EachRow : (Signature → Type 0) → List Signature → Type 0
EachRow P [] = Unit {0}
EachRow P (row ∷ rows) = P row × EachRow P rows

of-row : (P : Signature → Type 0) (rows : List Signature) (row : Signature) → EachRow P rows → Contains rows row → P row
of-row P [] row h m = absurd (contains-nil row m)
of-row P (first ∷ rows) row h m = go (contains-cons first row rows m) (of-row P rows row h.1)
  where
    go : (first ≡ row) ⊎ Contains rows row → (Contains rows row → P row) → P row
    go (inl e) later = subst P e h.0
    go (inr k) later = later k

-- the second and the third argument have one type
abbrev pub AreAlike : List ValueType → Type 0
AreAlike (c ∷ t ∷ u ∷ more) = t ≡ u
AreAlike _ = Unit {0}

pub alike : (args : List ValueType) (ty : ValueType) → Contains choices (of_types args ty) → AreAlike args
alike args ty m = of-row (λ (row : Signature). AreAlike row.args) choices (of_types args ty) (refl, (refl, (refl, (refl, (refl, tt))))) m

-- two ints
abbrev pub AreTwoInts : List ValueType → Type 0
AreTwoInts (t ∷ u ∷ []) = IsInt t × IsInt u
AreTwoInts _ = ⊥

pub two-ints : (args : List ValueType) (ty : ValueType) → Contains (of_types (type.Int ∷ type.Int ∷ []) type.Int ∷ []) (of_types args ty) → AreTwoInts args
two-ints args ty m = of-row (λ (row : Signature). AreTwoInts row.args) (of_types (type.Int ∷ type.Int ∷ []) type.Int ∷ []) (of_types args ty) ((tt, tt), tt) m

abbrev pub IsOneInt : List ValueType → Type 0
IsOneInt (t ∷ []) = IsInt t
IsOneInt _ = ⊥

pub one-int : (args : List ValueType) (ty : ValueType) → Contains (of_types (type.Int ∷ []) type.Int ∷ []) (of_types args ty) → IsOneInt args
one-int args ty m = of-row (λ (row : Signature). IsOneInt row.args) (of_types (type.Int ∷ []) type.Int ∷ []) (of_types args ty) (tt, tt) m

pub some-types : (x y : ValueType) → Some x ≡ Some y → x ≡ y
some-types x y e = ap (λ o. unwrap_or o x) e

pub nested : (Has : Expr → ValueType → Type 0) (before : List Expr) (e : Expr) (after : List Expr) → ((ty : ValueType) → Has e ty → ⊥)
    → (types : List ValueType) → HaveEach Has (before ++ e ∷ after) types → ⊥
nested Has [] e after none [] each = absurd each
nested Has [] e after none (t ∷ ts) each = none t each.0
nested Has (x ∷ xs) e after none [] each = absurd each
nested Has (x ∷ xs) e after none (t ∷ ts) each = nested Has xs e after none ts each.1
