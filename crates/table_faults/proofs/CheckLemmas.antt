-- What is found, as the fault at that place, and what isn't, as none.
use Rattle.std.specs.Cmp.{nat_eq_equiv}
use Rattle.std.proofs.Common.{◌≡◌, ℕ, ◌≤◌, ◌⊎◌, inl, inr, ◌++◌, Option, Some, None, List, length, refl, arith, ap, sym, ◌∙◌}
use Rattle.std.proofs.lemmas.Bool.Decides.{Decides-eqb}
use Rattle.std.proofs.lemmas.Map.Made.{length-le_from_is_member, IsDistinct-from_AllPairs, is_member-Decides}
use Rattle.lido_base.specs.Environment.{Environment}
use Rattle.lido_base.specs.Faults.{AtPlace, First, HasNone}
use Rattle.lido_base.proofs.FaultsLemmas.{none-at_place, first-front, first-behind, none-append}
use Rattle.lido_syntax.specs.declared.spec.Spec.{Spec}
use Rattle.lido_syntax.specs.declared.fault.SpecFault.{SpecFault}
use Rattle.lido_syntax.specs.declared.fault.SpecFault.TheVariants as fault
use Rattle.kind_clashes.specs.Least.{IsFirst}
use Rattle.table_faults.specs.Faults.{AreRoots, IsRootNotOne, table_faults}
use Rattle.table_faults.specs.Phases.{name_faults, kind_faults, place_faults}
use Rattle.table_faults.specs.Limits.{limit_faults}

pub found : (make : ℕ → SpecFault) {P : ℕ → Type 0} {o : Option ℕ} {at : ℕ} → o ≡ Some at → IsFirst P o → AtPlace make P (make at)
found make {at = at} e first = (at, first.some at e, refl)

pub not-found : (make : ℕ → SpecFault) {P : ℕ → Type 0} {o : Option ℕ} → ((at : ℕ) → o ≡ Some at → ⊥) → IsFirst P o → (f : SpecFault) → AtPlace make P f → ⊥
not-found make {P} {o} none first = none-at_place make P (by o none first)
  where
    by : (o : Option ℕ) → ((at : ℕ) → o ≡ Some at → ⊥) → IsFirst P o → (at : ℕ) → ¬ P at
    by None none first = first.none refl
    by (Some at) none first = absurd (none at refl)

-- two lists of the roots are of one length
module _ (spec : Spec) (env : Environment) where
  as-many : (a b : List ℕ) → AreRoots spec env a → AreRoots spec env b → length a ≤ length b
  as-many a b p q = length-le_from_is_member nat_eq_equiv a b (IsDistinct-from_AllPairs Decides-eqb a p.once)
      (λ s h. (is_member-Decides Decides-eqb b s).1 (q.all s (p.each s ((is_member-Decides Decides-eqb a s).0 h))))

  pub one-root : (roots : List ℕ) → AreRoots spec env roots → length roots ≡ 1 → (f : SpecFault) → IsRootNotOne spec env f → ⊥
  one-root roots are one f (others, also, not_one, e) = not_one (let p = as-many roots others are also in let q = as-many others roots also are in omega (arith, one, p, q))

  pub other-roots : (roots : List ℕ) (count : ℕ) → AreRoots spec env roots → length roots ≡ count → (count ≡ 1 → ⊥) → IsRootNotOne spec env (fault.RootNotOne count)
  other-roots roots count are e not_one = (roots, are, (λ h. not_one (sym e ∙ h)), ap (λ n. fault.RootNotOne n) (sym e))

-- the first fault of a part is the first of all where the parts in front of it have none
module _ (spec : Spec) (texts : List (List ℕ)) where
  abbrev pub Answers : (Spec → Environment → List (SpecFault → Type 0)) → SpecFault → Type 0
  Answers faults f = (f ≡ fault.Memory) ⊎ ((env : Environment) → env.texts ≡ texts → First (faults spec env) f)

  abbrev pub Passes : (Spec → Environment → List (SpecFault → Type 0)) → Type 0
  Passes faults = (env : Environment) → env.texts ≡ texts → HasNone (faults spec env)

  pub in-names : (f : SpecFault) → Answers name_faults f → Answers table_faults f
  in-names f (inl e) = inl e
  in-names f (inr h) = inr (λ env t. first-front (name_faults spec env) (kind_faults spec env ++ (place_faults spec env ++ limit_faults spec env)) f (h env t))

  pub in-kinds : (f : SpecFault) → Passes name_faults → Answers kind_faults f → Answers table_faults f
  in-kinds f names (inl e) = inl e
  in-kinds f names (inr h) = inr (λ env t. first-behind (name_faults spec env) (kind_faults spec env ++ (place_faults spec env ++ limit_faults spec env)) f (names env t)
      (first-front (kind_faults spec env) (place_faults spec env ++ limit_faults spec env) f (h env t)))

  pub in-places : (f : SpecFault) → Passes name_faults → Passes kind_faults → Answers place_faults f → Answers table_faults f
  in-places f names kinds (inl e) = inl e
  in-places f names kinds (inr h) = inr (λ env t. first-behind (name_faults spec env) (kind_faults spec env ++ (place_faults spec env ++ limit_faults spec env)) f (names env t)
      (first-behind (kind_faults spec env) (place_faults spec env ++ limit_faults spec env) f (kinds env t) (first-front (place_faults spec env) (limit_faults spec env) f (h env t))))

  pub in-limits : (f : SpecFault) → Passes name_faults → Passes kind_faults → Passes place_faults → Answers limit_faults f → Answers table_faults f
  in-limits f names kinds places (inl e) = inl e
  in-limits f names kinds places (inr h) = inr (λ env t. first-behind (name_faults spec env) (kind_faults spec env ++ (place_faults spec env ++ limit_faults spec env)) f (names env t)
      (first-behind (kind_faults spec env) (place_faults spec env ++ limit_faults spec env) f (kinds env t) (first-behind (place_faults spec env) (limit_faults spec env) f (places env t) (h env t))))

  pub in-none : Passes name_faults → Passes kind_faults → Passes place_faults → Passes limit_faults → Passes table_faults
  in-none names kinds places limits env t = none-append (name_faults spec env) (kind_faults spec env ++ (place_faults spec env ++ limit_faults spec env)) (names env t)
      (none-append (kind_faults spec env) (place_faults spec env ++ limit_faults spec env) (kinds env t) (none-append (place_faults spec env) (limit_faults spec env) (places env t) (limits env t)))
