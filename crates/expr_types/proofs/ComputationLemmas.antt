-- What is found of a computation in a scope, expression by expression.
use Rattle.std.specs.Prelude.{◌≡◌, ◌+◌, ◌<◌, ◌≤◌, ℕ, suc, ◌⊎◌, None, Some, List, [], ◌∷◌, ◌++◌, take, drop, length, get_or, All, Contains}
use Rattle.std.proofs.Common.{ap, sym, subst, inl, inr, arith}
use Rattle.std.proofs.lemmas.List.{take_more, take_all}
use Rattle.std.proofs.lemmas.List.Elements.{All-contains, All-push, Contains-get_or, Contains-append_right}
use Rattle.lido_base.specs.declared.value.ValueType.{ValueType}
use Rattle.lido_base.specs.declared.value.ValueType.TheVariants as type
use Rattle.lido_base.proofs.Lists.{contains-here, contains-later, contains-flat, flat-contains}
use Rattle.lido_syntax.specs.declared.fault.SpecFault.{SpecFault}
use Rattle.lido_syntax.specs.declared.fault.SpecFault.TheVariants as fault
use Rattle.lido_syntax.specs.declared.spec.Expr.{Expr}
use Rattle.lido_syntax.specs.declared.spec.Comp.{Comp}
use Rattle.lido_syntax.specs.declared.spec.Target.{Target}
use Rattle.lido_syntax.specs.declared.spec.Target.TheVariants as target
use Rattle.lido_syntax.specs.Parts.{leaves, conditions, expressions_of}
use Rattle.lido_syntax.specs.Sets.{Sets}
use Rattle.lido_syntax.specs.Computation.{Goal}
use Rattle.expr_types.specs.declared.scope.Scope.{Scope}
use Rattle.expr_types.specs.declared.computations.Wanted.{Wanted}
use Rattle.expr_types.specs.declared.computations.Wanted.TheVariants as wanted
use Rattle.expr_types.specs.Computations.{GoalTakes}
use Rattle.expr_types.specs.Faults.{IsFirstFault, IsFirstIn, IsRefused, IsConditionFault}
use Rattle.expr_types.specs.Faults as faults
use Rattle.expr_types.specs.Scopes.{spec_of, texts_of, holder_of, AreThereIn, HasTypeIn, IsFaultIn}
use Rattle.expr_types.specs.Wanted.{Takes, IsWantedBy, AreAllThere, IsRefusedIn, IsConditionTypedIn, IsConditionFaultIn, IsFirstInScope, IsTypedIn, IsComputationFaultIn}
use Rattle.expr_types.proofs.ExpressionLemmas.{split-at}

module _ (scope : Scope) where
  abbrev pub IsTypedSome : Expr → Type 0
  IsTypedSome e = (ty : ValueType) × HasTypeIn scope e ty

  -- ---- what is there

  pub there-one : (es : List Expr) (e : Expr) → AreAllThere scope es → Contains es e → AreThereIn scope e
  there-one es e are m leaf k = are leaf (flat-contains leaves es e leaf m k)

  pub there-item : (es : List Expr) (i : ℕ) (e : Expr) → i < length es → e ≡ get_or es i e → AreAllThere scope es → AreThereIn scope e
  there-item es i e less item are = there-one es e are (subst (Contains es) (sym item) (Contains-get_or es i e less))

  pub there-value : (c : Comp) → AreAllThere scope (expressions_of c) → AreThereIn scope c.value
  there-value c are = there-one (expressions_of c) c.value are (Contains-append_right (conditions c.target) (c.value ∷ c.after) c.value (contains-here c.value c.after))

  pub there-after : (c : Comp) (after : List Expr) → after ≡ c.after → AreAllThere scope (expressions_of c) → AreAllThere scope after
  there-after c after same are leaf m =
      let found = contains-flat leaves after leaf m in
      there-one (expressions_of c) found.0 are
      (Contains-append_right (conditions c.target) (c.value ∷ c.after) found.0 (contains-later c.value found.0 c.after (subst (λ es. Contains es found.0) same found.1))) leaf found.2

  -- ---- a message's condition

  -- the only item of lists of one
  only : (a b : Expr) → a ∷ [] ≡ b ∷ [] → a ≡ b
  only a b e = ap (λ (l : List Expr). get_or l 0 a) e

  not-one : (e : Expr) → e ∷ [] ≡ [] → ⊥
  not-one e same = let n : 1 ≡ 0 = ap (λ (l : List Expr). length l) same in absurd (omega (arith, n))

  pub condition-typed : (t : Target) (e : Expr) → e ∷ [] ≡ conditions t → HasTypeIn scope e type.Bool → IsConditionTypedIn scope t
  condition-typed (target.Attr p a) e is has = λ sets. tt
  condition-typed (target.Start a) e is has = λ sets. tt
  condition-typed target.Out e is has = λ sets. tt
  condition-typed (target.Message severity None) e is has = λ sets. tt
  condition-typed (target.Message severity (Some x)) e is has = subst (λ y. HasTypeIn scope y type.Bool) (only e x is) has

  pub no-condition : (t : Target) → [] ≡ conditions t → IsConditionTypedIn scope t
  no-condition (target.Attr p a) is = λ sets. tt
  no-condition (target.Start a) is = λ sets. tt
  no-condition target.Out is = λ sets. tt
  no-condition (target.Message severity None) is = λ sets. tt
  no-condition (target.Message severity (Some x)) is = absurd (not-one x (sym is))

  pub condition-fault : (t : Target) (e : Expr) (f : SpecFault) → e ∷ [] ≡ conditions t → IsRefusedIn scope (wanted.Only type.Bool) e f → IsConditionFaultIn scope t f
  condition-fault (target.Attr p a) e f is x = absurd (not-one e is)
  condition-fault (target.Start a) e f is x = absurd (not-one e is)
  condition-fault target.Out e f is x = absurd (not-one e is)
  condition-fault (target.Message severity None) e f is x = absurd (not-one e is)
  condition-fault (target.Message severity (Some y)) e f is x = subst (λ z. IsRefusedIn scope (wanted.Only type.Bool) z f) (only e y is) x

  pub condition-found : (t : Target) (e : Expr) (f : SpecFault) → e ∷ [] ≡ conditions t → (f ≡ fault.Memory) ⊎ IsRefusedIn scope (wanted.Only type.Bool) e f
      → (f ≡ fault.Memory) ⊎ IsConditionFaultIn scope t f
  condition-found t e f is (inl x) = inl x
  condition-found t e f is (inr x) = inr (condition-fault t e f is x)

  pub typed-condition : (t : Target) (e : Expr) → e ∷ [] ≡ conditions t → (ty : ValueType) × HasTypeIn scope e ty × Takes (wanted.Only type.Bool) ty → IsConditionTypedIn scope t
  typed-condition t e is x = condition-typed t e is (subst (λ ty. HasTypeIn scope e ty) x.2 x.1)

  -- ---- what stands behind the arrow

  first-typed : (front : List Expr) (e : Expr) (back : List Expr) (f : SpecFault) → All IsTypedSome front → IsFaultIn scope e f → IsFirstInScope scope (front ++ e ∷ back) f
  first-typed [] e back f all x = λ sets. inl (x sets)
  first-typed (p ∷ ps) e back f all x =
      let here : IsTypedSome p = All-contains IsTypedSome (p ∷ ps) p all (contains-here p ps) in
      let later = first-typed ps e back f (λ k d less. all (suc k) d (grind arith)) x in
      λ sets. inr (here.0, here.1 sets, later sets)

  pub after-found : (after : List Expr) (i : ℕ) (e : Expr) (f : SpecFault) → i < length after → e ≡ get_or after i e → All IsTypedSome (take i after)
      → (f ≡ fault.Memory) ⊎ IsFaultIn scope e f → (f ≡ fault.Memory) ⊎ IsFirstInScope scope after f
  after-found after i e f less item all (inl x) = inl x
  after-found after i e f less item all (inr x) = inr (subst (λ es. IsFirstInScope scope es f) (split-at after i e less item) (first-typed (take i after) e (drop (i + 1) after) f all x))

  pub after-more : (after : List Expr) (i : ℕ) (e : Expr) (ty : ValueType) → i < length after → e ≡ get_or after i e → All IsTypedSome (take i after) → HasTypeIn scope e ty → All IsTypedSome (take (i + 1) after)
  after-more after i e ty less item all has =
      subst (All IsTypedSome) (sym (take_more after i e less)) (All-push IsTypedSome (take i after) (get_or after i e) all (ty, subst (λ x. HasTypeIn scope x ty) item has))

  pub after-all : (after : List Expr) (i : ℕ) → length after ≤ i → All IsTypedSome (take i after) → All IsTypedSome after
  after-all after i past all = subst (All IsTypedSome) (take_all i after past) all

  -- ---- the whole

  refused-by : (w : Wanted) (goal : Goal) (e : Expr) (f : SpecFault) (sets : Sets (spec_of scope)) → IsWantedBy scope goal w
      → IsRefused (spec_of scope) sets (texts_of scope) (holder_of scope.holder) scope.rule.now scope.own.0 (Takes w) e f
      → IsRefused (spec_of scope) sets (texts_of scope) (holder_of scope.holder) scope.rule.now scope.own.0 (GoalTakes (spec_of scope) scope.own.0 goal) e f
  refused-by w goal e f sets by (faults.within x) = faults.within x
  refused-by w goal e f sets by (faults.not_taken ty has not at) = faults.not_taken ty has (λ takes. not ((by ty).1 takes)) at

  abbrev pub IsFoundOf : Wanted → Comp → SpecFault → Type 0
  IsFoundOf w c f = (f ≡ fault.Memory) ⊎ ((goal : Goal) → IsWantedBy scope goal w → IsComputationFaultIn scope goal c f)

  pub value-found : (w : Wanted) (c : Comp) (f : SpecFault) → IsConditionTypedIn scope c.target → (f ≡ fault.Memory) ⊎ IsRefusedIn scope w c.value f → IsFoundOf w c f
  value-found w c f condition (inl x) = inl x
  value-found w c f condition (inr x) = inr (λ goal by sets. faults.of_value (condition sets) (refused-by w goal c.value f sets by (x sets)))

  pub behind-found : (w : Wanted) (c : Comp) (after : List Expr) (f : SpecFault) → after ≡ c.after → IsConditionTypedIn scope c.target
      → (ty : ValueType) × HasTypeIn scope c.value ty × Takes w ty → (f ≡ fault.Memory) ⊎ IsFirstInScope scope after f → IsFoundOf w c f
  behind-found w c after f same condition value (inl x) = inl x
  behind-found w c after f same condition value (inr x) = inr (λ goal by sets.
      faults.of_after value.0 (condition sets) (value.1 sets) ((by value.0).0 value.2) (subst (λ es. IsFirstInScope scope es f) same x sets))

  pub whole-typed : (w : Wanted) (c : Comp) (after : List Expr) (goal : Goal) → after ≡ c.after → IsConditionTypedIn scope c.target
      → (ty : ValueType) × HasTypeIn scope c.value ty × Takes w ty → All IsTypedSome after → IsWantedBy scope goal w → IsTypedIn scope goal c
  whole-typed w c after goal same condition value all by = λ sets.
      let typed = subst (All IsTypedSome) same all in
      record {
        condition = condition sets;
        ty = value.0;
        value = value.1 sets;
        takes = (by value.0).0 value.2;
        after = λ k d less. ((typed k d less).0, (typed k d less).1 sets);
      }
