-- The segments of a sequence, one behind the other, are the sequence without its Leaves.
use Rattle.std.specs.Prelude.{flat_map}
use Rattle.std.proofs.Common.{◌≡◌, ℕ, zero, suc, ◌+◌, ◌<◌, List, [], ◌∷◌, ◌++◌, refl, arith, ap, sym, ◌∙◌, append_assoc}
use Rattle.flat_grammar.specs.declared.plan.PlanItem.{PlanItem}
use Rattle.flat_grammar.specs.declared.plan.PlanItem.TheVariants.{Eval, Visit, Leave}
use Rattle.flat_grammar.specs.WholeOrder.{segment}
use Rattle.core_machine.proofs.Segments.{leaves, leaves-leave}

-- behind an item that is no Leave comes one
abbrev pub EndsInLeave : List PlanItem → Type 0
EndsInLeave [] = Unit {0}
EndsInLeave (Leave w ∷ more) = EndsInLeave more
EndsInLeave (Eval o ∷ more) = (0 < leaves more) × EndsInLeave more
EndsInLeave (Visit k w ∷ more) = (0 < leaves more) × EndsInLeave more

some : (front : List PlanItem) (w : ℕ) → 0 < leaves (front ++ Leave w ∷ [])
some [] w = let e = leaves-leave w [] in omega (arith, e)
some (Leave v ∷ front) w = let e = leaves-leave v (front ++ Leave w ∷ []) in omega (arith, e)
some (Eval o ∷ front) w = let p = some front w in omega (arith, p)
some (Visit k v ∷ front) w = let p = some front w in omega (arith, p)

pub ends : (front : List PlanItem) (w : ℕ) → EndsInLeave (front ++ Leave w ∷ [])
ends [] w = tt
ends (Leave v ∷ front) w = ends front w
ends (Eval o ∷ front) w = (some front w, ends front w)
ends (Visit k v ∷ front) w = (some front w, ends front w)

pub leaves-end : (front : List PlanItem) (w : ℕ) → leaves (front ++ Leave w ∷ []) ≡ leaves front + 1
leaves-end [] w = let e = leaves-leave w [] in omega (arith, e)
leaves-end (Leave v ∷ front) w = let e = leaves-leave v (front ++ Leave w ∷ []) in let f = leaves-leave v front in let p = leaves-end front w in omega (arith, e, f, p)
leaves-end (Eval o ∷ front) w = let p = leaves-end front w in omega (arith, p)
leaves-end (Visit k v ∷ front) w = let p = leaves-end front w in omega (arith, p)

module _ {X : Type 0} (g : PlanItem → List X) (none : (w : ℕ) → g (Leave w) ≡ []) where
  -- what so many segments give, from segment u on
  abbrev pub joined : List PlanItem → ℕ → ℕ → List X
  joined seq u zero = []
  joined seq u (suc k) = flat_map g (segment u seq) ++ joined seq (suc u) k

  behind-leave : (w : ℕ) (more : List PlanItem) (u k : ℕ) → joined (Leave w ∷ more) (suc u) k ≡ joined more u k
  behind-leave w more u zero = refl
  behind-leave w more u (suc k) = ap (λ l. flat_map g (segment u more) ++ l) (behind-leave w more (suc u) k)

  behind-eval : (o : _) (more : List PlanItem) (u k : ℕ) → joined (Eval o ∷ more) (suc u) k ≡ joined more (suc u) k
  behind-eval o more u zero = refl
  behind-eval o more u (suc k) = ap (λ l. flat_map g (segment (suc u) more) ++ l) (behind-eval o more (suc u) k)

  behind-visit : (c v : ℕ) (more : List PlanItem) (u k : ℕ) → joined (Visit c v ∷ more) (suc u) k ≡ joined more (suc u) k
  behind-visit c v more u zero = refl
  behind-visit c v more u (suc k) = ap (λ l. flat_map g (segment (suc u) more) ++ l) (behind-visit c v more (suc u) k)

  pub whole : (seq : List PlanItem) (k : ℕ) → leaves seq ≡ k → EndsInLeave seq → joined seq 0 k ≡ flat_map g seq
  whole [] zero e h = refl
  whole [] (suc k) e h = absurd (omega (arith, e))
  whole (Leave w ∷ more) zero e h = let l = leaves-leave w more in absurd (omega (arith, e, l))
  whole (Leave w ∷ more) (suc k) e h = let l = leaves-leave w more in
      behind-leave w more 0 k ∙ whole more k (omega (arith, e, l)) h ∙ ap (λ z. z ++ flat_map g more) (sym (none w))
  whole (Eval o ∷ more) zero e h = let p = h.0 in absurd (omega (arith, e, p))
  whole (Eval o ∷ more) (suc k) e h =
      append_assoc (g (Eval o)) (flat_map g (segment 0 more)) (joined (Eval o ∷ more) 1 k)
      ∙ ap (λ l. g (Eval o) ++ l) (ap (λ l. flat_map g (segment 0 more) ++ l) (behind-eval o more 0 k) ∙ whole more (suc k) (omega (arith, e)) h.1)
  whole (Visit c v ∷ more) zero e h = let p = h.0 in absurd (omega (arith, e, p))
  whole (Visit c v ∷ more) (suc k) e h =
      append_assoc (g (Visit c v)) (flat_map g (segment 0 more)) (joined (Visit c v ∷ more) 1 k)
      ∙ ap (λ l. g (Visit c v) ++ l) (ap (λ l. flat_map g (segment 0 more) ++ l) (behind-visit c v more 0 k) ∙ whole more (suc k) (omega (arith, e)) h.1)
