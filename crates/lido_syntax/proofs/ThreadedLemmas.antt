-- What stands in front of a node in a chain, and what stands behind it, each by one of three equations.
use Rattle.std.proofs.Common.{◌≡◌, ℕ, ◌⊎◌, inl, inr, List, [], ◌∷◌, ◌++◌, Some, refl, ap, ◌∙◌, append_assoc}
use Rattle.lido_base.specs.declared.value.ValueType.{ValueType}
use Rattle.lido_base.specs.Environment.{Environment}
use Rattle.lido_base.specs.Operations.{kept}
use Rattle.lido_base.specs.Plain.{Plain, Void}
use Rattle.lido_base.specs.Tree.{Tree, children}
use Rattle.lido_syntax.specs.declared.spec.Spec.{Spec}
use Rattle.lido_syntax.specs.declared.spec.Comp.{Comp}
use Rattle.lido_syntax.specs.Assignment.{Assignment, Front, Behind}
use Rattle.lido_syntax.specs.Sets.{Sets}
use Rattle.lido_syntax.specs.Computation.{Holder}
use Rattle.lido_syntax.specs.Computation as goal
use Rattle.lido_syntax.specs.Nodes.{InForceAt, HasInForce, IsUnder}
use Rattle.lido_syntax.specs.Chains.{IsStart, IsComputed, IsThreaded, value_by}
use Rattle.lido_syntax.proofs.DecidedLemmas.{dec_in_force, last}

module _ (spec : Spec) (sets : Sets spec) (env : Environment) (t : Tree Plain) (A : Assignment) (c : ℕ) (ty : ValueType) (w : IsThreaded spec sets env t A c ty) where
  abbrev FrontIs : ℕ → ℕ → List ℕ → Type 0
  FrontIs n m before =
      ((before ≡ []) × ((v : Plain) × IsStart spec sets env t A c n v × (A m (Front c) ≡ Some (kept ty v))))
      ⊎ ((before ≡ []) × ¬ HasInForce spec t n (goal.Start c) × (A m (Front c) ≡ A n (Front c)))
      ⊎ ((earlier : List ℕ) × (j : ℕ) × (before ≡ earlier ++ j ∷ []) × (A m (Front c) ≡ A j (Behind c)))

  pub front : (n m : ℕ) (before rest : List ℕ) → children t n ≡ before ++ m ∷ rest → FrontIs n m before
  front n m [] rest e = go (dec_in_force spec sets t n (goal.Start c))
    where
      go : HasInForce spec t n (goal.Start c) ⊎ ¬ HasInForce spec t n (goal.Start c) → FrontIs n m []
      go (inl (h, comp, (r, at, force))) =
          let start : IsStart spec sets env t A c n (value_by spec sets env t A (λ chain. Void) n h r comp) = (h, comp, r, (r, at, force), at, refl) in
          inl (refl, (value_by spec sets env t A (λ chain. Void) n h r comp, start, w.first_child n m rest (value_by spec sets env t A (λ chain. Void) n h r comp) e start))
      go (inr none) = inr (inl (refl, none, w.first_child_passed n m rest e none))
  front n m (x ∷ xs) rest e =
      let l = last spec sets env t A x xs in
      inr (inr (l.0, l.1, l.2, w.later_child n l.1 m l.0 rest (e ∙ ap (λ zs. zs ++ m ∷ rest) l.2 ∙ append_assoc l.0 (l.1 ∷ []) (m ∷ rest))))

  abbrev BehindIs : ℕ → Type 0
  BehindIs n =
      ((h : Holder) × (comp : Comp) × InForceAt spec t n (goal.Behind c) h comp × ((v : Plain) × IsComputed spec sets env t A n h comp v × (A n (Behind c) ≡ Some (kept ty v))))
      ⊎ (¬ HasInForce spec t n (goal.Behind c) × ((children t n ≡ []) ⊎ HasInForce spec t n (goal.Start c)) × (A n (Behind c) ≡ A n (Front c)))
      ⊎ (¬ HasInForce spec t n (goal.Behind c) × ((before : List ℕ) × (m : ℕ) × (children t n ≡ before ++ m ∷ []) × (A n (Behind c) ≡ A m (Behind c))))

  pub behind : (n : ℕ) → IsUnder spec t c n → BehindIs n
  behind n under = go (dec_in_force spec sets t n (goal.Behind c)) (dec_in_force spec sets t n (goal.Start c))
    where
      walk : ¬ HasInForce spec t n (goal.Behind c) → ¬ HasInForce spec t n (goal.Start c) → (xs : List ℕ) → children t n ≡ xs → BehindIs n
      walk free none [] e = inr (inl (free, inl e, w.not_passed_on n free (inl e)))
      walk free none (x ∷ xs) e = let l = last spec sets env t A x xs in inr (inr (free, (l.0, l.1, e ∙ l.2, w.passed_on n l.1 l.0 free none (e ∙ l.2))))

      go : HasInForce spec t n (goal.Behind c) ⊎ ¬ HasInForce spec t n (goal.Behind c) → HasInForce spec t n (goal.Start c) ⊎ ¬ HasInForce spec t n (goal.Start c) → BehindIs n
      go (inl (h, comp, force)) start = inl (h, comp, force, w.assigned n h comp under force)
      go (inr free) (inl start) = inr (inl (free, inr start, w.not_passed_on n free (inr start)))
      go (inr free) (inr none) = walk free none (children t n) refl
