-- An expression has one type at most.
use Rattle.std.specs.Prelude.{◌≡◌, ℕ, ℤ, ◌⊎◌, Bool, true, false, if◌then◌else◌, List, [], ◌∷◌, map, option_map, codes, Option, Some, None, slice_get, unwrap_or, All, Contains, refl}
use Rattle.std.specs.Str.{bytes_eq}
use Rattle.std.proofs.Common.{ap, sym, subst, ◌∙◌, inl, inr}
use Rattle.std.proofs.lemmas.Option.{none-some}
use Rattle.std.proofs.lemmas.List.Elements.{All-contains}
use Rattle.lido_base.specs.declared.kinds.CoordPart.{CoordPart}
use Rattle.lido_base.specs.declared.operation.Op.{Op}
use Rattle.lido_base.specs.declared.operation.Op.TheVariants as op
use Rattle.lido_base.specs.declared.pattern.Pattern.{Pattern}
use Rattle.lido_base.specs.declared.value.ValueType.{ValueType}
use Rattle.lido_base.specs.declared.value.ValueType.TheVariants as type
use Rattle.lido_base.specs.Environment.{Environment}
use Rattle.lido_base.specs.Types.{Signature, of_types, signatures}
use Rattle.lido_base.proofs.Lists.{contains-nil, contains-cons, contains-here, map-contains}
use Rattle.lido_base.proofs.TreeLemmas.{test-contains}
use Rattle.lido_syntax.specs.declared.spec.Typed1.{Typed1}
use Rattle.lido_syntax.specs.declared.spec.Spec.{Spec}
use Rattle.lido_syntax.specs.declared.spec.Name.{Name}
use Rattle.lido_syntax.specs.declared.spec.Pair.{Pair}
use Rattle.lido_syntax.specs.declared.spec.With.{With}
use Rattle.lido_syntax.specs.declared.spec.RuleItem.{RuleItem}
use Rattle.lido_syntax.specs.declared.spec.Place.{Place}
use Rattle.lido_syntax.specs.declared.spec.Expr.{Expr, Int, Str, Bool as Truth, Terminal, Read, Including, Constituents, Call', Row_of-Expr, end_of-Expr, more_of-Expr}
use Rattle.lido_syntax.specs.Production.{name_of}
use Rattle.lido_syntax.specs.Symbols.{IsTerminal, IsChain, IsTypedChain}
use Rattle.lido_syntax.specs.Attributes.{HasType}
use Rattle.lido_syntax.specs.Sets.{Sets}
use Rattle.lido_syntax.specs.Computation.{Holder}
use Rattle.lido_syntax.specs.Coordinates.{coordinate_named}
use Rattle.lido_syntax.specs.Functions.{text_of, operation_of}
use Rattle.leaf_types.specs.Single.{AreSingleTypes}
use Rattle.expr_types.specs.Typing.{choices, Function, WithRows, Order, Gives, function_of, IsCall, IsPairType, ArePairTypes, IsGathered, IsReadType, IsBareType, HasExprType, HaveTypes}

-- ---- rows of types

-- the result that rows have is a function of their arguments
abbrev AreBy : (List ValueType → ValueType) → List Signature → Type 0
AreBy result [] = Unit {0}
AreBy result (row ∷ rows) = (row.gives ≡ result row.args) × AreBy result rows

by-row : (result : List ValueType → ValueType) (rows : List Signature) (row : Signature) → AreBy result rows → Contains rows row → row.gives ≡ result row.args
by-row result [] row h m = absurd (contains-nil row m)
by-row result (first ∷ rows) row h m = go (contains-cons first row rows m) (by-row result rows row h.1)
  where
    go : (first ≡ row) ⊎ Contains rows row → (Contains rows row → row.gives ≡ result row.args) → row.gives ≡ result row.args
    go (inl e) later = subst (λ (x : Signature). x.gives ≡ result x.args) e h.0
    go (inr k) later = later k

one-row : (result : List ValueType → ValueType) (rows : List Signature) → AreBy result rows → (args : List ValueType) (ty other : ValueType)
    → Contains rows (of_types args ty) → Contains rows (of_types args other) → ty ≡ other
one-row result rows h args ty other m n = by-row result rows (of_types args ty) h m ∙ sym (by-row result rows (of_types args other) h n)

-- the first argument, and the one behind it
abbrev first_of : List ValueType → ValueType
first_of [] = type.Void
first_of (ty ∷ more) = ty

abbrev second_of : List ValueType → ValueType
second_of [] = type.Void
second_of (ty ∷ more) = first_of more

abbrev result_of : Op → List ValueType → ValueType
result_of op.Add args = type.Int
result_of op.Sub args = type.Int
result_of op.Mul args = type.Int
result_of op.Div args = type.Int
result_of op.Mod args = type.Int
result_of op.Neg args = type.Int
result_of op.And args = type.Bool
result_of op.Or args = type.Bool
result_of op.Not args = type.Bool
result_of op.Eq args = type.Bool
result_of op.Ne args = type.Bool
result_of op.Lt args = type.Bool
result_of op.Le args = type.Bool
result_of op.Gt args = type.Bool
result_of op.Ge args = type.Bool
result_of op.Identical args = first_of args
result_of op.Zero args = type.Int
result_of op.One args = type.Int
result_of op.ArgToOne args = type.Int
result_of op.Null args = type.Text
result_of op.Numb args = type.Text
result_of op.AsIs args = type.Text
result_of op.Seq args = type.Text
result_of (op.Pattern k) args = type.Text

pattern-by : (k : ℕ) (o : Option Pattern) → AreBy (result_of (op.Pattern k)) (elim o [ None ↦ [] | Some pattern ↦ of_types pattern.args type.Text ∷ [] ])
pattern-by k None = tt
pattern-by k (Some pattern) = (refl, tt)

rows-by : (patterns : List Pattern) (o : Op) → AreBy (result_of o) (signatures patterns o)
rows-by patterns op.Add = (refl, tt)
rows-by patterns op.Sub = (refl, tt)
rows-by patterns op.Mul = (refl, tt)
rows-by patterns op.Div = (refl, tt)
rows-by patterns op.Mod = (refl, tt)
rows-by patterns op.Neg = (refl, tt)
rows-by patterns op.And = (refl, tt)
rows-by patterns op.Or = (refl, tt)
rows-by patterns op.Not = (refl, tt)
rows-by patterns op.Eq = (refl, (refl, (refl, tt)))
rows-by patterns op.Ne = (refl, (refl, (refl, tt)))
rows-by patterns op.Lt = (refl, tt)
rows-by patterns op.Le = (refl, tt)
rows-by patterns op.Gt = (refl, tt)
rows-by patterns op.Ge = (refl, tt)
rows-by patterns op.Identical = (refl, (refl, (refl, (refl, (refl, tt)))))
rows-by patterns op.Zero = (refl, tt)
rows-by patterns op.One = (refl, tt)
rows-by patterns op.ArgToOne = (refl, (refl, (refl, (refl, (refl, tt)))))
rows-by patterns op.Null = (refl, tt)
rows-by patterns op.Numb = (refl, tt)
rows-by patterns op.AsIs = (refl, tt)
rows-by patterns op.Seq = (refl, tt)
rows-by patterns (op.Pattern k) = pattern-by k (slice_get patterns k)

choices-by : AreBy second_of choices
choices-by = (refl, (refl, (refl, (refl, (refl, tt)))))

-- ---- calls

pub same-option : {X : Type 0} (x y : X) → Some x ≡ Some y → x ≡ y
same-option x y e = ap (λ o. unwrap_or o x) e

-- what the rows of a function are, or that it is ORDER
abbrev IsSingle : Function → Type 0
IsSingle (WithRows rows) = (result : List ValueType → ValueType) × AreBy result rows
IsSingle Order = Unit {0}

one-gives : (function : Function) → IsSingle function → (args : List ValueType) (ty other : ValueType) → Gives function args ty → Gives function args other → ty ≡ other
one-gives (WithRows rows) s args ty other g h = one-row s.0 rows s.1 args ty other g h
one-gives Order s args ty other g h = same-option ty other (sym g ∙ h)

module _ (env : Environment) where
  is-single : (f : Name) (function : Function) → function_of env f ≡ Some function → IsSingle function
  is-single f function = go (bytes_eq (text_of env (name_of f)) (codes "IF")) (bytes_eq (text_of env (name_of f)) (codes "ORDER")) (operation_of env (text_of env (name_of f)))
    where
      operation : (o : Option Op) → option_map (λ o. WithRows (signatures env.patterns o)) o ≡ Some function → IsSingle function
      operation None e = absurd (none-some _ e)
      operation (Some o) e = subst IsSingle (same-option (WithRows (signatures env.patterns o)) function e) (result_of o, rows-by env.patterns o)

      go : (a b : Bool) (o : Option Op) → (if a then Some (WithRows choices) else if b then Some Order else option_map (λ o. WithRows (signatures env.patterns o)) o) ≡ Some function → IsSingle function
      go true b o e = subst IsSingle (same-option (WithRows choices) function e) (second_of, choices-by)
      go false true o e = subst IsSingle (same-option Order function e) tt
      go false false o e = operation o e

  pub one-call : (f : Name) (args : List ValueType) (ty other : ValueType) → IsCall env f args ty → IsCall env f args other → ty ≡ other
  one-call f args ty other g h =
      let same : g.0 ≡ h.0 = same-option g.0 h.0 (sym g.1 ∙ h.1) in
      one-gives h.0 (is-single f h.0 h.1) args ty other (subst (λ x. Gives x args ty) same g.2) h.2

-- ---- expressions

typed-chain : (spec : Spec) (c : ℕ) (ty : ValueType) → IsTypedChain spec c ty → IsChain spec c
typed-chain spec c ty (x, m, e, same) =
    let there = map-contains (λ (y : Typed1). name_of y.name) spec.chains x m in
    test-contains c (map (λ (y : Typed1). name_of y.name) spec.chains) (subst (λ n. Contains (map (λ (y : Typed1). name_of y.name) spec.chains) n) e there)

module _ (spec : Spec) (single : AreSingleTypes spec) (sets : Sets spec) (env : Environment) where
  pub one-pairs : (pairs : List Pair) (ty other : ValueType) → ArePairTypes spec sets pairs ty → ArePairTypes spec sets pairs other → ty ≡ other
  one-pairs [] ty other g h = absurd g
  one-pairs (p ∷ ps) ty other g h = single.attribute (name_of p.sym) (name_of p.attr) ty other
      (named ty g) (named other h)
    where
      named : (t : ValueType) → All (IsPairType spec sets t) (p ∷ ps) → HasType spec (name_of p.sym) (name_of p.attr) t
      named t all = let here : IsPairType spec sets t p = All-contains (IsPairType spec sets t) (p ∷ ps) p all (contains-here p ps) in here.0

  one-gathered : (pairs : List Pair) (with : Option With) (ty other : ValueType) → IsGathered spec sets env pairs with ty → IsGathered spec sets env pairs with other → ty ≡ other
  one-gathered pairs None ty other g h = g ∙ sym h
  one-gathered pairs (Some with) ty other g h = g.1 ∙ sym h.1

  module _ (holder : Holder) (r : RuleItem) (own : ℕ) where
    one-read : (p : Place) (a : Name) (ty other : ValueType) → IsReadType spec sets env holder r own p a ty → IsReadType spec sets env holder r own p a other → ty ≡ other
    one-read p a ty other (inl g) (inl h) = single.chain (name_of a) ty other g h
    one-read p a ty other (inl g) (inr h) = absurd (h.0 (typed-chain spec (name_of a) ty g))
    one-read p a ty other (inr g) (inl h) = absurd (g.0 (typed-chain spec (name_of a) other h))
    one-read p a ty other (inr g) (inr h) = single.attribute _ (name_of a) ty other g.1 h.1

    abbrev IsBareBy : Name → ValueType → Option CoordPart → Type 0
    IsBareBy x ty o = elim o [ Some part ↦ ty ≡ type.Int | None ↦ IsTerminal spec (name_of x) ty ]

    one-bare : (x : Name) (i : Option ℤ) (ty other : ValueType) → IsBareType spec sets env holder r own x i ty → IsBareType spec sets env holder r own x i other → ty ≡ other
    one-bare x i ty other = go (coordinate_named env holder r x i)
      where
        go : (o : Option CoordPart) → IsBareBy x ty o → IsBareBy x other o → ty ≡ other
        go (Some part) g h = g ∙ sym h
        go None g h = single.terminal (name_of x) ty other g h

    mutual
      pub one-type : (e : Expr) (ty other : ValueType) → HasExprType spec sets env holder r own e ty → HasExprType spec sets env holder r own e other → ty ≡ other
      one-type (Int at z) ty other g h = g ∙ sym h
      one-type (Str at s) ty other g h = g ∙ sym h
      one-type (Truth at b) ty other g h = g ∙ sym h
      one-type (Terminal x i) ty other g h = one-bare x i ty other g h
      one-type (Read at p a) ty other g h = one-read p a ty other g h
      one-type (Including at pairs) ty other g h = one-pairs pairs ty other g h
      one-type (Constituents k) ty other g h = one-gathered k.pairs k.with ty other g h
      one-type (Call' f shape args) ty other g h =
          let same : g.0 ≡ h.0 = one-types args g.0 h.0 g.1 h.1 in
          one-call env f h.0 ty other (subst (λ types. IsCall env f types ty) same g.2) h.2

      pub one-types : {m : _} (k : Row_of-Expr m) (types others : List ValueType) → HaveTypes spec sets env holder r own k types → HaveTypes spec sets env holder r own k others → types ≡ others
      one-types end_of-Expr [] [] g h = refl
      one-types end_of-Expr [] (u ∷ us) g h = absurd h
      one-types end_of-Expr (t ∷ ts) us g h = absurd g
      one-types (more_of-Expr e es) [] us g h = absurd g
      one-types (more_of-Expr e es) (t ∷ ts) [] g h = absurd h
      one-types (more_of-Expr e es) (t ∷ ts) (u ∷ us) g h =
          let first = one-type e t u g.0 h.0 in
          let more = one-types es ts us g.1 h.1 in
          λ i. first i ∷ more i
