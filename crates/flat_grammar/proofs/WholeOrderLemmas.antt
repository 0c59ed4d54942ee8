-- The order of a visit goes along its segment and asks the children's visits.
use Rattle.std.specs.Prelude.{Contains, slice_get, flat_map, option_and_then, filter_map}
use Rattle.std.proofs.Common.{◌≡◌, ℕ, zero, suc, ◌-◌, ◌<◌, List, [], ◌∷◌, ◌++◌, length, Option, Some, None, refl, ap, subst}
use Rattle.std.proofs.lemmas.Option.{none-some}
use Rattle.lido_base.specs.Tree.{Tree, Item, Child, Leaf, child_number, children, items_of, AsksBelow, IsTree}
use Rattle.lido_base.proofs.TreeLemmas.{from_children-step, children_behind}
use Rattle.flat_grammar.specs.declared.plan.PlanItem.{PlanItem}
use Rattle.flat_grammar.specs.declared.plan.PlanItem.TheVariants.{Eval, Visit, Leave}
use Rattle.flat_grammar.specs.WholeOrder.{Instance, segment, child_at, sequence_at, visit_order, item_order, order}
use Rattle.flat_grammar.proofs.Lists.{held, contains-first, contains-later}

child-listed : {V : Type 0} (items : List (Item V)) (k c : ℕ) → option_and_then child_number (slice_get items k) ≡ Some c → Contains (filter_map child_number items) c
child-listed [] k c e = absurd (none-some _ e)
child-listed (Child d ∷ items) zero c e = subst (λ n. Contains (d ∷ filter_map child_number items) n) (held e) (contains-first d _)
child-listed (Leaf v ∷ items) zero c e = absurd (none-some _ e)
child-listed (Child d ∷ items) (suc k) c e = contains-later d c _ (child-listed items k c e)
child-listed (Leaf v ∷ items) (suc k) c e = child-listed items k c e

-- a node at an occurrence is a child
pub child_at-child : {V : Type 0} (t : Tree V) (n k c : ℕ) → child_at t n k ≡ Some c → Contains (children t n) c
child_at-child t n zero c e = absurd (none-some _ e)
child_at-child t n (suc k) c e = child-listed (items_of t n) k c e

module _ {V : Type 0} (t : Tree V) (seqs : List (List PlanItem)) where
  abbrev step : (ℕ → ℕ → List Instance) → ℕ → ℕ → List Instance
  step below n v = flat_map (item_order t seqs below n) (segment (v - 1) (sequence_at t seqs n))

  visit-same : (n : ℕ) (f g : ℕ → ℕ → List Instance) → ((c : ℕ) → Contains (children t n) c → f c ≡ g c) → (k v : ℕ) (o : Option ℕ) → child_at t n k ≡ o → visit_order t seqs f o v ≡ visit_order t seqs g o v
  visit-same n f g same k v None e = refl
  visit-same n f g same k v (Some c) e = ap (λ h. h v) (same c (child_at-child t n k c e))

  items-same : (n : ℕ) (f g : ℕ → ℕ → List Instance) → ((c : ℕ) → Contains (children t n) c → f c ≡ g c) → (items : List PlanItem) → flat_map (item_order t seqs f n) items ≡ flat_map (item_order t seqs g n) items
  items-same n f g same [] = refl
  items-same n f g same (Eval o ∷ items) = ap (λ l. item_order t seqs f n (Eval o) ++ l) (items-same n f g same items)
  items-same n f g same (Visit k v ∷ items) = let e = visit-same n f g same k v (child_at t n k) refl in let rest = items-same n f g same items in λ i. e i ++ rest i
  items-same n f g same (Leave v ∷ items) = ap (λ l. item_order t seqs f n (Leave v) ++ l) (items-same n f g same items)

  asks : AsksBelow t step
  asks n f g same = λ i v. items-same n f g same (segment (v - 1) (sequence_at t seqs n)) i

  pub order-step : IsTree t → (n v : ℕ) → n < length t → order t seqs n v ≡ flat_map (item_order t seqs (order t seqs) n) (segment (v - 1) (sequence_at t seqs n))
  unfolding order
  order-step w n v h = ap (λ f. f v) (from_children-step t (λ v. []) step asks (children_behind t w) n h)
