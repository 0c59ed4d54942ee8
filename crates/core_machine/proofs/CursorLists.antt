-- What is left of visits under way, and how many moves, by the innermost visit.
use Rattle.std.specs.Prelude.{slice_get, drop}
use Rattle.std.proofs.Common.{append_assoc, append-nil, ◌≡◌, ◌<◌, ◌+◌, ◌-◌, ℕ, zero, suc, List, [], ◌∷◌, ◌++◌, length, Option, Some, None, refl, arith, ap, sym, ◌∙◌}
use Rattle.std.proofs.lemmas.Option.{none-some}
use Rattle.lido_base.specs.Tree.{IsTree, children}
use Rattle.lido_base.proofs.TreeLemmas.{from_children-step, children_behind}
use Rattle.flat_grammar.specs.declared.plan.PlanItem.{PlanItem}
use Rattle.flat_grammar.specs.declared.plan.PlanItem.TheVariants.{Eval, Visit, Leave}
use Rattle.flat_grammar.specs.WholeOrder.{segment, child_at, sequence_at}
use Rattle.flat_grammar.proofs.WholeOrderLemmas.{child_at-child}
use Rattle.flat_grammar.proofs.Lists.{held}
use Rattle.std.specs.Prelude.{Contains}
use Rattle.core_machine.specs.declared.cursor.Frame.{Frame}
use Rattle.core_machine.specs.Core.{Task}
use Rattle.core_machine.specs.Cursors.{rest_of, taken, left_inside, left_of, moves, visit_moves, items_moves, moves_along, moves_inside, moves_left}

-- a list from a place on: the item there, and what is behind it
pub drop-item : {A : Type 0} (xs : List A) (k : ℕ) (x : A) → slice_get xs k ≡ Some x → drop k xs ≡ x ∷ drop (k + 1) xs
drop-item [] k x e = absurd (none-some _ e)
drop-item (y ∷ xs) zero x e = ap (λ z. z ∷ xs) (held e)
drop-item (y ∷ xs) (suc k) x e = let n : suc k + 1 ≡ suc (k + 1) = omega arith in drop-item xs k x e ∙ ap (λ z. x ∷ drop z (y ∷ xs)) (sym n)

pub drop-none : {A : Type 0} (xs : List A) (k : ℕ) → slice_get xs k ≡ None → drop k xs ≡ []
drop-none [] zero e = refl
drop-none [] (suc k) e = refl
drop-none (y ∷ xs) zero e = absurd (none-some _ (sym e))
drop-none (y ∷ xs) (suc k) e = drop-none xs k e

module _ (j : Task) where
  -- what is left to a visit of its sequence: to the outermost one all, to others what is before the next Leave
  abbrev pub share : List Frame → Frame → List PlanItem
  share [] f = rest_of j f
  share (g ∷ front) f = segment 0 (rest_of j f)

  pub share-inner : (front : List Frame) (top f : Frame) → share (front ++ top ∷ []) f ≡ segment 0 (rest_of j f)
  share-inner [] top f = refl
  share-inner (g ∷ front) top f = refl

  inside-push : (inner : List Frame) (top : Frame) → left_inside j (inner ++ top ∷ []) ≡ taken j top.node (segment 0 (rest_of j top)) ++ left_inside j inner
  inside-push [] top = sym (append-nil (taken j top.node (segment 0 (rest_of j top))))
  inside-push (f ∷ inner) top =
      ap (λ l. l ++ taken j f.node (segment 0 (rest_of j f))) (inside-push inner top)
      ∙ append_assoc (taken j top.node (segment 0 (rest_of j top))) (left_inside j inner) (taken j f.node (segment 0 (rest_of j f)))

  pub left-top : (front : List Frame) (top : Frame) → left_of j (front ++ top ∷ []) ≡ taken j top.node (share front top) ++ left_of j front
  left-top [] top = sym (append-nil (taken j top.node (rest_of j top)))
  left-top (f ∷ inner) top =
      ap (λ l. l ++ taken j f.node (rest_of j f)) (inside-push inner top)
      ∙ append_assoc (taken j top.node (segment 0 (rest_of j top))) (left_inside j inner) (taken j f.node (rest_of j f))

  moves-push : (inner : List Frame) (top : Frame) → moves_inside j (inner ++ top ∷ []) ≡ moves_along j top.node (segment 0 (rest_of j top)) + moves_inside j inner
  moves-push [] top = omega arith
  moves-push (f ∷ inner) top = let e = moves-push inner top in omega (arith, e)

  pub moves-top : (front : List Frame) (top : Frame) → moves_left j (front ++ top ∷ []) ≡ moves_along j top.node (share front top) + moves_left j front
  moves-top [] top = omega arith
  moves-top (f ∷ inner) top = let e = moves-push inner top in omega (arith, e)

  -- an item that doesn't end the visit is the first of its share
  pub share-eval : (front : List Frame) (f g : Frame) (o : _) → g.node ≡ f.node → g.place ≡ f.place + 1 → slice_get (sequence_at j.flat j.seqs f.node) f.place ≡ Some (Eval o) → share front f ≡ Eval o ∷ share front g
  share-eval front f g o n p e = go front (drop-item (sequence_at j.flat j.seqs f.node) f.place (Eval o) e ∙ (λ i. Eval o ∷ drop (sym p i) (sequence_at j.flat j.seqs (sym n i))))
    where
      go : (front : List Frame) → rest_of j f ≡ Eval o ∷ rest_of j g → share front f ≡ Eval o ∷ share front g
      go [] h = h
      go (x ∷ front) h = ap (segment 0) h

  pub share-visit : (front : List Frame) (f g : Frame) (k v : ℕ) → g.node ≡ f.node → g.place ≡ f.place + 1 → slice_get (sequence_at j.flat j.seqs f.node) f.place ≡ Some (Visit k v) → share front f ≡ Visit k v ∷ share front g
  share-visit front f g k v n p e = go front (drop-item (sequence_at j.flat j.seqs f.node) f.place (Visit k v) e ∙ (λ i. Visit k v ∷ drop (sym p i) (sequence_at j.flat j.seqs (sym n i))))
    where
      go : (front : List Frame) → rest_of j f ≡ Visit k v ∷ rest_of j g → share front f ≡ Visit k v ∷ share front g
      go [] h = h
      go (x ∷ front) h = ap (segment 0) h

  -- the outermost visit goes on behind a Leave, another ends there
  pub share-leave : (f g : Frame) (v : ℕ) → g.node ≡ f.node → g.place ≡ f.place + 1 → slice_get (sequence_at j.flat j.seqs f.node) f.place ≡ Some (Leave v) → share [] f ≡ Leave v ∷ share [] g
  share-leave f g v n p e = drop-item (sequence_at j.flat j.seqs f.node) f.place (Leave v) e ∙ (λ i. Leave v ∷ drop (sym p i) (sequence_at j.flat j.seqs (sym n i)))

  pub share-end : (x : Frame) (front : List Frame) (f : Frame) (v : ℕ) → slice_get (sequence_at j.flat j.seqs f.node) f.place ≡ Some (Leave v) → share (x ∷ front) f ≡ []
  share-end x front f v e = ap (segment 0) (drop-item (sequence_at j.flat j.seqs f.node) f.place (Leave v) e)

  pub leave-outermost : (front : List Frame) (f g : Frame) (v : ℕ) → length front ≡ 0 → g.node ≡ f.node → g.place ≡ f.place + 1 → slice_get (sequence_at j.flat j.seqs f.node) f.place ≡ Some (Leave v) → share front f ≡ Leave v ∷ share front g
  leave-outermost [] f g v h n p e = share-leave f g v n p e
  leave-outermost (x ∷ front) f g v h n p e = absurd (omega (arith, h))

  pub leave-inner : (front : List Frame) (f : Frame) (v : ℕ) → (length front ≡ 0 → ⊥) → slice_get (sequence_at j.flat j.seqs f.node) f.place ≡ Some (Leave v) → share front f ≡ []
  leave-inner [] f v h e = absurd (h refl)
  leave-inner (x ∷ front) f v h e = share-end x front f v e

  pub share-none : (front : List Frame) (f : Frame) → slice_get (sequence_at j.flat j.seqs f.node) f.place ≡ None → share front f ≡ []
  share-none [] f e = drop-none (sequence_at j.flat j.seqs f.node) f.place e
  share-none (x ∷ front) f e = ap (segment 0) (drop-none (sequence_at j.flat j.seqs f.node) f.place e)

  module _ (n : ℕ) (f g : ℕ → ℕ → ℕ) (same : (c : ℕ) → Contains (children j.flat n) c → f c ≡ g c) where
    visit-moves : (k v : ℕ) (o : Option ℕ) → child_at j.flat n k ≡ o → visit_moves j f o v ≡ visit_moves j g o v
    visit-moves k v None e = refl
    visit-moves k v (Some c) e = ap (λ h. h v) (same c (child_at-child j.flat n k c e))

    items-same : (some : List PlanItem) → items_moves j f n some ≡ items_moves j g n some
    items-same [] = refl
    items-same (Eval o ∷ some) = ap (λ l. 1 + l) (items-same some)
    items-same (Visit k v ∷ some) = let e = visit-moves k v (child_at j.flat n k) refl in let rest = items-same some in λ i. suc (e i) + rest i
    items-same (Leave v ∷ some) = ap (λ l. 1 + l) (items-same some)

  -- the moves of a visit are those of its items, and one for its end
  pub moves-step : IsTree j.flat → (n v : ℕ) → n < length j.flat → moves j n v ≡ moves_along j n (segment (v - 1) (sequence_at j.flat j.seqs n))
  unfolding moves
  moves-step w n v h = ap (λ (f : ℕ → ℕ). f v) (from_children-step j.flat (λ v. 0) (λ below n v. suc (items_moves j below n (segment (v - 1) (sequence_at j.flat j.seqs n))))
      (λ n f g same. λ i v. suc (items-same n f g same (segment (v - 1) (sequence_at j.flat j.seqs n)) i)) (children_behind j.flat w) n h)
