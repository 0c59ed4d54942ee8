-- An expression that has a type has no fault.
use Rattle.std.specs.Prelude.{◌≡◌, ℕ, suc, List, [], ◌∷◌, ◌++◌, length, Option, Some, None, All, refl}
use Rattle.std.proofs.Common.{ap, sym, subst, ◌∙◌, inl, inr, append_assoc, arith}
use Rattle.std.proofs.lemmas.Option.{none-some}
use Rattle.std.proofs.lemmas.List.Elements.{All-contains, Contains-append_right}
use Rattle.lido_base.specs.declared.value.ValueType.{ValueType}
use Rattle.lido_base.specs.Environment.{Environment}
use Rattle.lido_base.specs.Types.{of_types}
use Rattle.lido_base.proofs.Lists.{contains-here}
use Rattle.lido_syntax.specs.declared.fault.SpecFault.{SpecFault}
use Rattle.lido_syntax.specs.declared.spec.Spec.{Spec}
use Rattle.lido_syntax.specs.declared.spec.Name.{Name}
use Rattle.lido_syntax.specs.declared.spec.Pair.{Pair}
use Rattle.lido_syntax.specs.declared.spec.With.{With}
use Rattle.lido_syntax.specs.declared.spec.RuleItem.{RuleItem}
use Rattle.lido_syntax.specs.declared.spec.Expr.{Expr, Int, Str, Bool as Truth, Terminal, Read, Including, Constituents, Call', Row_of-Expr, end_of-Expr, more_of-Expr}
use Rattle.lido_syntax.specs.Production.{name_of}
use Rattle.lido_syntax.specs.Attributes.{HasType}
use Rattle.lido_syntax.specs.Sets.{Sets}
use Rattle.lido_syntax.specs.Computation.{Holder}
use Rattle.leaf_types.specs.Single.{AreSingleTypes}
use Rattle.expr_types.specs.Typing.{Function, WithRows, Order, Gives, function_of, IsCall, IsPairType, ArePairTypes, IsGathered, HasExprType, HaveTypes}
use Rattle.expr_types.specs.Faults.{TakesMany, Begins, IsFirstMisfit, IsNameFault, IsWithFault, IsUnequal, IsGatheredFault, IsCallFault, IsFirstFault, IsFirstOfAll, begins}
use Rattle.expr_types.specs.Faults as faults
use Rattle.expr_types.proofs.TypingLemmas.{same-option, one-pairs, one-types}

-- ---- calls

takes-given : (function : Function) (args : List ValueType) (ty : ValueType) → Gives function args ty → TakesMany function (length args)
takes-given (WithRows rows) args ty g = (of_types args ty, g, refl)
takes-given Order [] ty g = absurd (none-some ty g)
takes-given Order (a ∷ args) ty g = grind arith

fits-given : (function : Function) (args : List ValueType) (k : ℕ) (ty : ValueType) → Gives function args ty → IsFirstMisfit function args k → ⊥
fits-given (WithRows rows) args k ty g m = m.6 (of_types args ty, m.2, g, m.3 ∙ sym (append_assoc m.0 (m.1 ∷ []) m.2))
fits-given Order args k ty g m = absurd m

module _ (env : Environment) where
  name-fault : (f : Name) (args : List ValueType) (ty : ValueType) (e : SpecFault) → IsCall env f args ty → IsNameFault env f args ty e → ⊥
  name-fault f args ty e call (faults.unknown none) = none-some call.0 (sym none ∙ call.1)
  name-fault f args ty e call (faults.count function known not) =
      not (subst (λ x. TakesMany x (length args)) (same-option call.0 function (sym call.1 ∙ known)) (takes-given call.0 args ty call.2))
  name-fault f args ty e call (faults.types function known many not) =
      not (subst (λ x. Gives x args ty) (same-option call.0 function (sym call.1 ∙ known)) call.2)

  with-fault : (source : ValueType) (with : With) (e : SpecFault) → IsCall env with.comb (with.ty ∷ with.ty ∷ []) with.ty
      → IsCall env with.single (source ∷ []) with.ty → IsCall env with.null [] with.ty → IsWithFault env source with e → ⊥
  with-fault source with e comb single null (faults.in_comb n) = name-fault with.comb (with.ty ∷ with.ty ∷ []) with.ty e comb n
  with-fault source with e comb single null (faults.in_single c n) = name-fault with.single (source ∷ []) with.ty e single n
  with-fault source with e comb single null (faults.in_null c s n) = name-fault with.null [] with.ty e null n

-- ---- pairs

all-at : {X : Type 0} (P : X → Type 0) (front : List X) (x : X) (back : List X) → All P (front ++ x ∷ back) → P x
all-at P front x back h = All-contains P (front ++ x ∷ back) x h (Contains-append_right front (x ∷ back) x (contains-here x back))

module _ (spec : Spec) (single : AreSingleTypes spec) (sets : Sets spec) where
  unequal : (pairs : List Pair) (ty : ValueType) (f : SpecFault) → ArePairTypes spec sets pairs ty → IsUnequal spec sets pairs f → ⊥
  unequal [] ty f are u = absurd are
  unequal (p ∷ ps) ty f are u =
      let same : p ≡ u.first = same-option p u.first u.is_first in
      let here : IsPairType spec sets ty p = All-contains (IsPairType spec sets ty) (p ∷ ps) p are (contains-here p ps) in
      let equal : ty ≡ u.ty = single.attribute (name_of p.sym) (name_of p.attr) ty u.ty here.0
      (subst (λ (q : Pair). HasType spec (name_of q.sym) (name_of q.attr) u.ty) (sym same) u.its) in
      u.unlike (subst (λ t. IsPairType spec sets t u.other) equal
      (all-at (IsPairType spec sets ty) u.front u.other u.back (subst (All (IsPairType spec sets ty)) u.split are)))

  module _ (env : Environment) where
    gathered : (pairs : List Pair) (with : Option With) (ty : ValueType) (f : SpecFault) → IsGathered spec sets env pairs with ty → IsGatheredFault spec sets env pairs with f → ⊥
    gathered pairs None ty f g x = absurd x
    gathered pairs (Some with) ty f g (inl u) = unequal pairs g.0.source f g.0.sources u
    gathered pairs (Some with) ty f g (inr x) =
        let same : g.0.source ≡ x.0 = one-pairs spec single sets env pairs g.0.source x.0 g.0.sources x.1 in
        with-fault env x.0 with f g.0.comb (subst (λ s. IsCall env with.single (s ∷ []) with.ty) same g.0.single) g.0.null x.2

    module _ (holder : Holder) (r : RuleItem) (own : ℕ) where
      as-many : {m : _} (k : Row_of-Expr m) (types : List ValueType) → HaveTypes spec sets env holder r own k types → length types ≡ length (begins k)
      as-many end_of-Expr [] h = refl
      as-many end_of-Expr (t ∷ ts) h = absurd h
      as-many (more_of-Expr e es) [] h = absurd h
      as-many (more_of-Expr e es) (t ∷ ts) h = ap suc (as-many es ts h.1)

      gives-by : (g : Name) (types : List ValueType) (ty : ValueType) → IsCall env g types ty → (function : Function) → function_of env g ≡ Some function → Gives function types ty
      gives-by g types ty call function known = subst (λ y. Gives y types ty) (same-option call.0 function (sym call.1 ∙ known)) call.2

      call-fault : {m : _} (g : Name) (k : Row_of-Expr m) (ty : ValueType) (f : SpecFault) (types : List ValueType) → HaveTypes spec sets env holder r own k types
          → IsCall env g types ty → (IsFirstOfAll spec sets env holder r own k f → ⊥)
          → IsCallFault spec sets env holder r own (IsFirstOfAll spec sets env holder r own k) g k f → ⊥
      call-fault g k ty f types have call inside (inl x) = none-some call.0 (sym x.0 ∙ call.1)
      call-fault g k ty f types have call inside (inr (function, known, inl x)) =
          x.0 (subst (TakesMany function) (as-many k types have) (takes-given function types ty (gives-by g types ty call function known)))
      call-fault g k ty f types have call inside (inr (function, known, inr (many, inl x))) = inside x
      call-fault g k ty f types have call inside (inr (function, known, inr (many, inr x))) =
          let same : types ≡ x.0 = one-types spec single sets env holder r own k types x.0 have x.3 in
          fits-given function x.0 x.1 ty (subst (λ ts. Gives function ts ty) same (gives-by g types ty call function known)) x.4

      mutual
        pub no-fault : (e : Expr) (ty : ValueType) (f : SpecFault) → HasExprType spec sets env holder r own e ty → IsFirstFault spec sets env holder r own e f → ⊥
        no-fault (Int at z) ty f g x = absurd x
        no-fault (Str at s) ty f g x = absurd x
        no-fault (Truth at b) ty f g x = absurd x
        no-fault (Terminal n i) ty f g x = absurd x
        no-fault (Read at p a) ty f g x = absurd x
        no-fault (Including at pairs) ty f g x = unequal pairs ty f g x
        no-fault (Constituents k) ty f g x = gathered k.pairs k.with ty f g x
        no-fault (Call' n shape args) ty f g x = call-fault n args ty f g.0 g.1 g.2 (no-faults args g.0 f g.1) x

        no-faults : {m : _} (k : Row_of-Expr m) (types : List ValueType) (f : SpecFault) → HaveTypes spec sets env holder r own k types → IsFirstOfAll spec sets env holder r own k f → ⊥
        no-faults end_of-Expr types f h x = absurd x
        no-faults (more_of-Expr e es) [] f h x = absurd h
        no-faults (more_of-Expr e es) (t ∷ ts) f h (inl x) = no-fault e t f h.0 x
        no-faults (more_of-Expr e es) (t ∷ ts) f h (inr x) = no-faults es ts f h.1 x.2
