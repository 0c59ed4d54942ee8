-- What is found of a call in a scope, argument by argument.
use Rattle.std.specs.Prelude.{◌≡◌, ◌+◌, ◌<◌, ◌≤◌, ℕ, ◌⊎◌, List, [], ◌∷◌, ◌++◌, take, drop, length, flat_map, get_or, Contains}
use Rattle.std.proofs.Common.{ap, sym, subst, ◌∙◌, inl, inr, arith, length-append}
use Rattle.std.proofs.lemmas.Grind.{flat_map-append}
use Rattle.std.proofs.lemmas.List.{take_more, take_all, drop_more, take-append-drop}
use Rattle.std.proofs.lemmas.List.Elements.{Contains-get_or}
use Rattle.lido_base.specs.declared.value.ValueType.{ValueType}
use Rattle.lido_syntax.specs.declared.fault.SpecFault.{SpecFault}
use Rattle.lido_syntax.specs.declared.fault.SpecFault.TheVariants as fault
use Rattle.lido_syntax.specs.declared.spec.Name.{Name}
use Rattle.lido_syntax.specs.declared.spec.Expr.{Expr}
use Rattle.lido_syntax.specs.declared.spec.Expr.TheVariants as expr
use Rattle.lido_syntax.specs.Parts.{parts}
use Rattle.lido_syntax.specs.Sets.{Sets}
use Rattle.lido_syntax.proofs.ExpressionLemmas.{parts-Call}
use Rattle.expr_types.specs.declared.scope.Scope.{Scope}
use Rattle.expr_types.specs.Typing.{Function, Gives, HasExprType}
use Rattle.expr_types.specs.Faults.{IsFirstFault, IsFirstIn}
use Rattle.expr_types.specs.Calls.{HaveEach, IsCallee, IsCalleeFault, IsMisfit}
use Rattle.expr_types.specs.Scopes.{spec_of, texts_of, holder_of, AreThereIn, HasTypeIn, IsFaultIn}
use Rattle.expr_types.proofs.CallLemmas.{has-call}
use Rattle.expr_types.proofs.ArgumentLemmas.{each-at, each-more, there-in, first-behind, callee-fault, argument-fault, misfit-fault}

-- the items in front of one, the item, and those behind
pub split-at : (es : List Expr) (i : ℕ) (e : Expr) → i < length es → e ≡ get_or es i e → take i es ++ e ∷ drop (i + 1) es ≡ es
split-at es i e less is =
    ap (λ x. take i es ++ x ∷ drop (i + 1) es) is ∙ ap (λ rest. take i es ++ rest) (sym (drop_more es i e less)) ∙ take-append-drop i es

call-parts : (e : Expr) (es : List Expr) → length (e ∷ es) ≡ 1 + length es
call-parts e es = grind arith

-- an argument has fewer parts than the call
pub parts-fall : (value : Expr) (g : Name) (args slice : List Expr) (i : ℕ) (arg : Expr) → value ≡ expr.Call g args → slice ≡ args → i < length slice → arg ≡ get_or slice i arg
    → length (parts arg) < length (parts value)
parts-fall value g args slice i arg is same less item =
    let front = take i slice in
    let back = drop (i + 1) slice in
    let whole : length (parts value) ≡ 1 + length (flat_map parts args) = ap (λ e. length (parts e)) is ∙ ap length (parts-Call g args) ∙ call-parts (expr.Call g args) (flat_map parts args) in
    let cut : flat_map parts args ≡ flat_map parts front ++ flat_map parts (arg ∷ back) =
    ap (flat_map parts) (sym same ∙ sym (split-at slice i arg less item)) ∙ flat_map-append parts front (arg ∷ back) in
    let first : length (flat_map parts (arg ∷ back)) ≡ length (parts arg) + length (flat_map parts back) = length-append (parts arg) (flat_map parts back) in
    let both : length (flat_map parts args) ≡ length (flat_map parts front) + length (flat_map parts (arg ∷ back)) = ap length cut ∙ length-append (flat_map parts front) (flat_map parts (arg ∷ back)) in
    omega (arith, whole, first, both)

module _ (scope : Scope) where
  abbrev Has : Sets (spec_of scope) → Expr → ValueType → Type 0
  Has sets e ty = HasExprType (spec_of scope) sets (texts_of scope) (holder_of scope.holder) scope.rule.now scope.own.0 e ty

  abbrev Fault : Sets (spec_of scope) → Expr → SpecFault → Type 0
  Fault sets e f = IsFirstFault (spec_of scope) sets (texts_of scope) (holder_of scope.holder) scope.rule.now scope.own.0 e f

  pub no-callee : (value : Expr) (g : Name) (args slice : List Expr) (f : SpecFault) → value ≡ expr.Call g args → slice ≡ args
      → IsCalleeFault (texts_of scope) g (length slice) f → IsFaultIn scope value f
  no-callee value g args slice f is same x = λ sets.
      subst (λ e. Fault sets e f) (sym is)
      (callee-fault (spec_of scope) sets (texts_of scope) (holder_of scope.holder) scope.rule.now scope.own.0 g args f
      (subst (λ es. IsCalleeFault (texts_of scope) g (length es) f) same x))

  pub argument-there : (value : Expr) (g : Name) (args slice : List Expr) (i : ℕ) (arg : Expr) → value ≡ expr.Call g args → slice ≡ args → i < length slice → arg ≡ get_or slice i arg
      → AreThereIn scope value → AreThereIn scope arg
  argument-there value g args slice i arg is same less item are =
      there-in (spec_of scope) (texts_of scope) (holder_of scope.holder) scope.rule.now scope.own.0 g args arg (subst (AreThereIn scope) is are)
      (subst (λ es. Contains es arg) same (subst (Contains slice) (sym item) (Contains-get_or slice i arg less)))

  pub argument-found : (value : Expr) (g : Name) (args slice : List Expr) (function : Function) (i : ℕ) (arg : Expr) (types : List ValueType) (f : SpecFault)
      → value ≡ expr.Call g args → slice ≡ args → i < length slice → arg ≡ get_or slice i arg → IsCallee (texts_of scope) g (length slice) function
      → HaveEach (HasTypeIn scope) (take i slice) types → (f ≡ fault.Memory) ⊎ IsFaultIn scope arg f → (f ≡ fault.Memory) ⊎ IsFaultIn scope value f
  argument-found value g args slice function i arg types f is same less item callee each (inl e) = inl e
  argument-found value g args slice function i arg types f is same less item callee each (inr x) = inr (λ sets.
      let first : IsFirstIn (spec_of scope) sets (texts_of scope) (holder_of scope.holder) scope.rule.now scope.own.0 (take i slice ++ arg ∷ drop (i + 1) slice) f =
      first-behind (spec_of scope) sets (texts_of scope) (holder_of scope.holder) scope.rule.now scope.own.0 (take i slice) types arg (drop (i + 1) slice) f
      (each-at (Has) (take i slice) types each sets) (x sets) in
      subst (λ e. Fault sets e f) (sym is)
      (argument-fault (spec_of scope) sets (texts_of scope) (holder_of scope.holder) scope.rule.now scope.own.0 g args function f
      (subst (λ es. IsCallee (texts_of scope) g (length es) function) same callee)
      (subst (λ es. IsFirstIn (spec_of scope) sets (texts_of scope) (holder_of scope.holder) scope.rule.now scope.own.0 es f) (split-at slice i arg less item ∙ same) first)))

  pub more-typed : (slice : List Expr) (i : ℕ) (arg : Expr) (types new : List ValueType) (ty : ValueType) → i < length slice → arg ≡ get_or slice i arg
      → HaveEach (HasTypeIn scope) (take i slice) types → HasTypeIn scope arg ty → new ≡ types ++ ty ∷ [] → HaveEach (HasTypeIn scope) (take (i + 1) slice) new
  more-typed slice i arg types new ty less item each has e =
      let more = each-more (HasTypeIn scope) (take i slice) types (get_or slice i arg) ty each (subst (λ x. HasTypeIn scope x ty) item has) in
      let taken = subst (λ es. HaveEach (HasTypeIn scope) es (types ++ ty ∷ [])) (sym (take_more slice i arg less)) more in
      subst (HaveEach (HasTypeIn scope) (take (i + 1) slice)) (sym e) taken

  pub all-typed : (slice : List Expr) (i : ℕ) (types items : List ValueType) → length slice ≤ i → HaveEach (HasTypeIn scope) (take i slice) types → items ≡ types → HaveEach (HasTypeIn scope) slice items
  all-typed slice i types items past each e =
      subst (HaveEach (HasTypeIn scope) slice) (sym e) (subst (λ es. HaveEach (HasTypeIn scope) es types) (take_all i slice past) each)

  pub given-typed : (value : Expr) (g : Name) (args slice : List Expr) (function : Function) (types : List ValueType) (ty : ValueType) → value ≡ expr.Call g args → slice ≡ args
      → IsCallee (texts_of scope) g (length slice) function → HaveEach (HasTypeIn scope) slice types → Gives function types ty → HasTypeIn scope value ty
  given-typed value g args slice function types ty is same callee each gives = λ sets.
      subst (λ e. Has sets e ty) (sym is)
      (has-call (spec_of scope) sets (texts_of scope) (holder_of scope.holder) scope.rule.now scope.own.0 g args types function
      (subst (λ es. HaveEach (Has sets) es types) same (each-at (Has) slice types each sets)) callee.0 ty gives)

  pub misfit-found : (value : Expr) (g : Name) (args slice : List Expr) (function : Function) (types : List ValueType) (f : SpecFault) → value ≡ expr.Call g args → slice ≡ args
      → IsCallee (texts_of scope) g (length slice) function → HaveEach (HasTypeIn scope) slice types → IsMisfit function slice types f → IsFaultIn scope value f
  misfit-found value g args slice function types f is same callee each misfit = λ sets.
      subst (λ e. Fault sets e f) (sym is)
      (misfit-fault (spec_of scope) sets (texts_of scope) (holder_of scope.holder) scope.rule.now scope.own.0 g args function types f
      (subst (λ es. IsCallee (texts_of scope) g (length es) function) same callee)
      (subst (λ es. HaveEach (Has sets) es types) same (each-at (Has) slice types each sets))
      (subst (λ es. IsMisfit function es types f) same misfit))
