-- Calls by the list of their arguments: where they begin, and their first faults.
use Rattle.std.specs.Prelude.{◌≡◌, ℕ, suc, ◌<◌, ◌≤◌, min, nat_lt, Bool, true, false, if◌then◌else◌, List, [], ◌∷◌, ◌++◌, length, map, get_or, Some, slice_get, option_map, Contains, refl}
use Rattle.std.proofs.Common.{ap, sym, subst, ◌∙◌, inl, inr, arith}
use Rattle.std.proofs.lemmas.Option.{slice_get-map}
use Rattle.std.proofs.lemmas.List.{length-map}
use Rattle.std.proofs.lemmas.Bool.{ltb-true, ltb-false}
use mathlib.Core.Former.{Count}
use Rattle.lido_base.specs.declared.value.ValueType.{ValueType}
use Rattle.lido_base.specs.Environment.{Environment}
use Rattle.lido_base.proofs.Lists.{contains-here, flat-contains}
use Rattle.lido_syntax.specs.declared.fault.SpecFault.{SpecFault}
use Rattle.lido_syntax.specs.declared.spec.Spec.{Spec}
use Rattle.lido_syntax.specs.declared.spec.Name.{Name}
use Rattle.lido_syntax.specs.declared.spec.RuleItem.{RuleItem}
use Rattle.lido_syntax.specs.declared.spec.Expr.{Expr, Int, Str, Bool as Truth, Terminal, Read, Including, Constituents, Call'}
use Rattle.lido_syntax.specs.declared.spec.Expr as whole
use Rattle.lido_syntax.specs.declared.spec.Expr.TheVariants as expr
use Rattle.lido_syntax.specs.declared.spec.Expr.TheBlock.{hidden-the_row-Expr-0}
use Rattle.lido_syntax.specs.Parts.{is_leaf, leaves}
use Rattle.lido_syntax.specs.Sets.{Sets}
use Rattle.lido_syntax.specs.Computation.{Holder}
use Rattle.lido_syntax.proofs.ExpressionLemmas.{leaves-Call}
use Rattle.expr_types.specs.Typing.{Function, HasExprType}
use Rattle.expr_types.specs.Faults.{lesser, begin_of, begin_of_call, begins, TakesMany, IsFirstFault, IsFirstOfAll, IsFirstIn}
use Rattle.expr_types.specs.Calls.{HaveEach, IsCallee, IsCalleeFault, IsMisfit}
use Rattle.expr_types.specs.Scopes.{IsThere, AreThere}
use Rattle.expr_types.proofs.CallLemmas.{to-row}

-- ---- where a call begins

abbrev pub begin_in : ℕ → List Expr → ℕ
begin_in at [] = at
begin_in at (e ∷ es) = lesser at (begin_of e)

begin-row : (m : Count) (k : whole.Row_of-Expr m) (at : ℕ) → begin_of_call at k ≡ begin_in at (whole.items-the_row-Expr m k)
begin-row m whole.end_of-Expr at = refl
begin-row m (whole.more_of-Expr e es) at = refl

pub begin-Call : (f : Name) (args : List Expr) → begin_of (expr.Call f args) ≡ begin_in f.at args
begin-Call f args = begin-row _ (hidden-the_row-Expr-0 args) f.at ∙ ap (begin_in f.at) (whole.items_hidden-the_row-Expr-0 args)

pub begin-empty : (at : ℕ) (args : List Expr) → length args < 1 → at ≡ begin_in at args
begin-empty at [] none = refl
begin-empty at (e ∷ es) none = absurd (omega (arith, none))

min-lesser : (x y : ℕ) → min x y ≡ lesser x y
min-lesser x y = go (nat_lt x y) refl
  where
    go : (b : Bool) → nat_lt x y ≡ b → min x y ≡ (if b then x else y)
    go true e = let less : x < y = ltb-true x y e in omega (arith, less)
    go false e = let least : y ≤ x = ltb-false x y e in omega (arith, least)

pub begin-first : (at begin : ℕ) (args : List Expr) (first : Expr) → 1 ≤ length args → first ≡ get_or args 0 first → begin ≡ begin_of first → min at begin ≡ begin_in at args
begin-first at begin [] first some e b = absurd (omega (arith, some))
begin-first at begin (x ∷ xs) first some e b = min-lesser at begin ∙ ap (lesser at) (b ∙ ap begin_of e)

-- ---- types of arguments, one by one

pub each-more : (Has : Expr → ValueType → Type 0) (es : List Expr) (types : List ValueType) (e : Expr) (ty : ValueType) → HaveEach Has es types → Has e ty → HaveEach Has (es ++ e ∷ []) (types ++ ty ∷ [])
each-more Has [] [] e ty each has = (has, tt)
each-more Has [] (t ∷ ts) e ty each has = absurd each
each-more Has (x ∷ xs) [] e ty each has = absurd each
each-more Has (x ∷ xs) (t ∷ ts) e ty each has = (each.0, each-more Has xs ts e ty each.1 has)

pub each-count : (Has : Expr → ValueType → Type 0) (es : List Expr) (types : List ValueType) → HaveEach Has es types → length types ≡ length es
each-count Has [] [] each = refl
each-count Has [] (t ∷ ts) each = absurd each
each-count Has (x ∷ xs) [] each = absurd each
each-count Has (x ∷ xs) (t ∷ ts) each = ap suc (each-count Has xs ts each.1)

pub each-at : {S : Type 0} (Has : S → Expr → ValueType → Type 0) (es : List Expr) (types : List ValueType) → HaveEach (λ e ty. (s : S) → Has s e ty) es types → (s : S) → HaveEach (Has s) es types
each-at Has [] [] each s = tt
each-at Has [] (t ∷ ts) each s = absurd each
each-at Has (x ∷ xs) [] each s = absurd each
each-at Has (x ∷ xs) (t ∷ ts) each s = (each.0 s, each-at Has xs ts each.1 s)

-- ---- what is there in a call is there in its arguments, and a leaf is there itself

module _ (spec : Spec) (env : Environment) (h : Holder) (r : RuleItem) (own : ℕ) where
  pub there-in : (f : Name) (args : List Expr) (arg : Expr) → AreThere spec env h r own (expr.Call f args) → Contains args arg → AreThere spec env h r own arg
  there-in f args arg are m leaf k = are leaf (subst (λ es. Contains es leaf) (sym (leaves-Call f args)) (flat-contains leaves args arg leaf m k))

  pub there-leaf : (e : Expr) → is_leaf e ≡ true → AreThere spec env h r own e → IsThere spec env h r own e
  there-leaf (Int at z) leaf are = are (Int at z) (contains-here _ [])
  there-leaf (Str at s) leaf are = are (Str at s) (contains-here _ [])
  there-leaf (Truth at b) leaf are = are (Truth at b) (contains-here _ [])
  there-leaf (Terminal x i) leaf are = are (Terminal x i) (contains-here _ [])
  there-leaf (Read at p a) leaf are = are (Read at p a) (contains-here _ [])
  there-leaf (Including at pairs) leaf are = are (Including at pairs) (contains-here _ [])
  there-leaf (Constituents k) leaf are = are (Constituents k) (contains-here _ [])
  there-leaf (Call' f shape args) leaf are = tt

-- ---- the first fault of a call

begins-row : (m : Count) (k : whole.Row_of-Expr m) → begins k ≡ map begin_of (whole.items-the_row-Expr m k)
begins-row m whole.end_of-Expr = refl
begins-row m (whole.more_of-Expr e es) = ap (λ more. begin_of e ∷ more) (begins-row _ es)

begins-args : (args : List Expr) → begins (hidden-the_row-Expr-0 args) ≡ map begin_of args
begins-args args = begins-row _ (hidden-the_row-Expr-0 args) ∙ ap (map begin_of) (whole.items_hidden-the_row-Expr-0 args)

count-args : (args : List Expr) → length (begins (hidden-the_row-Expr-0 args)) ≡ length args
count-args args = ap length (begins-args args) ∙ length-map args begin_of

module _ (spec : Spec) (sets : Sets spec) (env : Environment) (h : Holder) (r : RuleItem) (own : ℕ) where
  first-row : (m : Count) (k : whole.Row_of-Expr m) (f : SpecFault) → IsFirstIn spec sets env h r own (whole.items-the_row-Expr m k) f → IsFirstOfAll spec sets env h r own k f
  first-row m whole.end_of-Expr f x = x
  first-row m (whole.more_of-Expr e es) f (inl x) = inl x
  first-row m (whole.more_of-Expr e es) f (inr x) = inr (x.0, x.1, first-row _ es f x.2)

  pub first-behind : (front : List Expr) (types : List ValueType) (e : Expr) (back : List Expr) (f : SpecFault) → HaveEach (HasExprType spec sets env h r own) front types
      → IsFirstFault spec sets env h r own e f → IsFirstIn spec sets env h r own (front ++ e ∷ back) f
  first-behind [] [] e back f each x = inl x
  first-behind [] (t ∷ ts) e back f each x = absurd each
  first-behind (p ∷ ps) [] e back f each x = absurd each
  first-behind (p ∷ ps) (t ∷ ts) e back f each x = inr (t, each.0, first-behind ps ts e back f each.1 x)

  pub callee-fault : (g : Name) (args : List Expr) (f : SpecFault) → IsCalleeFault env g (length args) f → IsFirstFault spec sets env h r own (expr.Call g args) f
  callee-fault g args f (inl x) = inl x
  callee-fault g args f (inr (function, known, few, e)) = inr (function, known, inl (λ many. few (subst (TakesMany function) (count-args args) many), e))

  pub argument-fault : (g : Name) (args : List Expr) (function : Function) (f : SpecFault) → IsCallee env g (length args) function
      → IsFirstIn spec sets env h r own args f → IsFirstFault spec sets env h r own (expr.Call g args) f
  argument-fault g args function f (known, many) x = inr (
    function,
    known,
    inr (
      subst (TakesMany function) (sym (count-args args)) many,
      inl (first-row _ (hidden-the_row-Expr-0 args) f (subst (λ es. IsFirstIn spec sets env h r own es f) (sym (whole.items_hidden-the_row-Expr-0 args)) x)),
    ),
  )

  pub misfit-fault : (g : Name) (args : List Expr) (function : Function) (types : List ValueType) (f : SpecFault) → IsCallee env g (length args) function
      → HaveEach (HasExprType spec sets env h r own) args types → IsMisfit function args types f → IsFirstFault spec sets env h r own (expr.Call g args) f
  misfit-fault g args function types f (known, many) each (k, arg, misfit, there, e) =
      let have = to-row spec sets env h r own _ (hidden-the_row-Expr-0 args) types
      (subst (λ es. HaveEach (HasExprType spec sets env h r own) es types) (sym (whole.items_hidden-the_row-Expr-0 args)) each) in
      let place : slice_get (begins (hidden-the_row-Expr-0 args)) k ≡ Some (begin_of arg) =
      ap (λ xs. slice_get xs k) (begins-args args) ∙ slice_get-map begin_of args k ∙ ap (option_map begin_of) there in
      inr (
        function,
        known,
        inr (
          subst (TakesMany function) (sym (count-args args)) many,
          inr (types, k, begin_of arg, have, misfit, place, e),
        ),
      )
