-- The list of a region, item by item.
use Rattle.std.specs.Prelude.{◌==◌, Contains, fold, flat_map, sum_by, if◌then◌else◌}
use Rattle.std.proofs.lemmas.List.Sums.{fold-append, sum_by-cons}
use Rattle.std.proofs.lemmas.List.Elements.{filter-append, Contains-append_right}
use Rattle.std.proofs.lemmas.Grind.{flat_map-append}
use Rattle.std.proofs.Common.{◌≡◌, ◌+◌, ◌<◌, ◌≤◌, ℕ, zero, suc, Bool, true, false, List, [], ◌∷◌, ◌++◌, length, length-append, length-drop, take, drop, Option, Some, None, ◌*◌, refl, arith, ap, sym, ◌∙◌, subst, slice_get, eq-eqb, eqb-true, append-nil, inl, inr}
use Rattle.lido_base.proofs.Lists.{contains-nil, contains-cons}
use Rattle.lido_base.specs.declared.ids.NodeId.{NodeId}
use Rattle.flat_grammar.specs.declared.flat.Occ.{Occ}
use Rattle.flat_grammar.specs.WholeOrder.{Instance}
use Rattle.flat_grammar.specs.Instances.{instance_at}
use Rattle.core_machine.specs.Instances.{IsSite}
use Rattle.core_machine.specs.Machine.{Item, eval_of, put_of, own}
use Rattle.core_machine.specs.Core.{Task, IsTask, home, items, machine}
use Rattle.core_machine.specs.Keys.{key_of, IsShared}
use Rattle.core_machine.proofs.Regions.{Found}
use Rattle.core_machine.proofs.CursorLists.{drop-item, drop-none}
use Rattle.core_machine.proofs.CursorPaths.{filter-keeps}
use Rattle.std.proofs.lemmas.Option.{slice_get_within}
use Rattle.flat_grammar.specs.Fitting.{most_instances}
use Rattle.core_machine.specs.declared.cursor.Item.{Item as Named}
use Rattle.core_machine.specs.declared.cursor.Item.TheVariants as named
use Rattle.core_machine.specs.Cursors.{IsFirst, IsNamed}
use Rattle.core_machine.proofs.LimitLemmas.{few-items}
use Rattle.core_machine.proofs.Lists.{head-same}
use Rattle.region_engine.specs.Behind.{list, room_at, room_behind, put_key, named_keys, keys_at, cost_of}

pub take-more : {A : Type 0} (l : List A) (n : ℕ) (x : A) → slice_get l n ≡ Some x → take (n + 1) l ≡ take n l ++ x ∷ []
take-more l n x h = let e : n + 1 ≡ suc n = omega arith in ap (λ k. take k l) e ∙ go l n h
  where
    go : {A : Type 0} {x : A} (l : List A) (n : ℕ) → slice_get l n ≡ Some x → take (suc n) l ≡ take n l ++ x ∷ []
    go [] n h = absurd (cc)
    go {x = x} (y ∷ ys) zero h = let e : y ≡ x = cc in λ i. e i ∷ []
    go (y ∷ ys) (suc n) h = ap (λ l. y ∷ l) (go ys n h)

module _ (j : Task) where
  -- one item further
  pub room-next : (r n : ℕ) (x : Item Instance) → slice_get (list j r) n ≡ Some x → room_at j r (n + 1) ≡ room_behind j (room_at j r n) x
  room-next r n x h = ap (λ l. fold (room_behind j) [] l) (take-more (list j r) n x h) ∙ fold-append (room_behind j) [] (take n (list j r)) (x ∷ [])

  pub keys-next : (r n : ℕ) (x : Item Instance) → slice_get (list j r) n ≡ Some x → keys_at j r (n + 1) ≡ keys_at j r n ++ put_key j x
  keys-next r n x h = ap (flat_map (put_key j)) (take-more (list j r) n x h) ∙ flat_map-append (put_key j) (take n (list j r)) (x ∷ []) ∙ ap (λ l. keys_at j r n ++ l) (append-nil (put_key j x))

  -- an item stands in the list of its region
  pub among-own : (r : ℕ) (front : List (Item Instance)) (x : Item Instance) → home j x.makes ≡ r → Contains front x → Contains (own (machine j) r front) x
  among-own r front x at m = filter-keeps (λ z. home j z.makes == r) front x m (eq-eqb (home j x.makes) r at)

  -- and what stands there is of the region
  pub own-among : (r : ℕ) (front : List (Item Instance)) (x : Item Instance) → Contains (own (machine j) r front) x → Contains front x × (home j x.makes ≡ r)
  own-among r [] x m = absurd (contains-nil x m)
  own-among r (y ∷ ys) x m = go (home j y.makes == r) refl m (own-among r ys x)
    where
      later : Contains ys x × (home j x.makes ≡ r) → Contains (y ∷ ys) x × (home j x.makes ≡ r)
      later (c, e) = (Contains-append_right (y ∷ []) ys x c, e)

      go : (b : Bool) → (home j y.makes == r) ≡ b → Contains (if b then y ∷ own (machine j) r ys else own (machine j) r ys) x → (Contains (own (machine j) r ys) x → Contains ys x × (home j x.makes ≡ r)) → Contains (y ∷ ys) x × (home j x.makes ≡ r)
      go true e m rest = elim (contains-cons y x (own (machine j) r ys) m) [
        | inl same ↦ ((0, omega arith, same), ap (λ (z : Item Instance). home j z.makes) (sym same) ∙ eqb-true (home j y.makes) r e)
        | inr c ↦ later (rest c)
      ]
      go false e m rest = later (rest m)

  -- the list up to a place has the region's items of the whole list before it
  pub front-own : (r n : ℕ) (x : Item Instance) → (f : Found (machine j) r (items j) n x) → take n (list j r) ≡ own (machine j) r f.front
  front-own r n x f =
      let m = machine j in
      let e : list j r ≡ own m r f.front ++ own m r (x ∷ f.back) = ap (own m r) f.whole ∙ filter-append (λ z. home j z.makes == r) f.front (x ∷ f.back) in
      ap (take n) e ∙ ap (λ k. take k (own m r f.front ++ own m r (x ∷ f.back))) (sym f.index) ∙ seam (own m r f.front) (own m r (x ∷ f.back))
    where
      seam : {A : Type 0} (xs ys : List A) → take (length xs) (xs ++ ys) ≡ xs
      seam [] ys = refl
      seam (x ∷ xs) ys = ap (λ l. x ∷ l) (seam xs ys)

  pub space-next : (r n : ℕ) (x : Item Instance) → slice_get (list j r) n ≡ Some x → sum_by (cost_of j r) (drop n (list j r)) ≡ cost_of j r x + sum_by (cost_of j r) (drop (n + 1) (list j r))
  space-next r n x h = ap (sum_by (cost_of j r)) (drop-item (list j r) n x h) ∙ sum_by-cons (cost_of j r) x (drop (n + 1) (list j r))

  -- What a cursor stands at.
  pub first-item : (l : List (Item Instance)) (name : Named) → IsFirst j l (Some name) → (x : Item Instance) × (more : List (Item Instance)) × (l ≡ x ∷ more) × IsNamed j name x
  first-item [] name h = absurd h
  first-item (x ∷ more) name h = (x, more, refl, h)

  pub none-first : (l : List (Item Instance)) → IsFirst j l None → l ≡ []
  none-first [] h = refl
  none-first (x ∷ more) h = absurd h

  -- the item at which the list goes on
  pub next-there : {A : Type 0} (l : List A) (n : ℕ) (x : A) (more : List A) → drop n l ≡ x ∷ more → slice_get l n ≡ Some x
  next-there l n x more e = go (slice_get l n) refl
    where
      go : (o : Option _) → slice_get l n ≡ o → o ≡ Some x
      go None f = let z = sym (drop-none l n f) ∙ e in absurd (cc)
      go (Some y) f = let z = sym (drop-item l n y f) ∙ e in ap Some (head-same y x (drop (n + 1) l) more z)

  -- nothing is left at the end of the list alone
  pub ends-there : {A : Type 0} (l : List A) (n : ℕ) → n ≤ length l → drop n l ≡ [] → n ≡ length l
  ends-there l n h e = let a = ap length e in let b = length-drop n l in omega (arith, a, b, h)

  pub named-key : (name : Named) (x : Item Instance) → IsNamed j name x → named_keys name ≡ put_key j x
  named-key (named.Put key) x (e, shared, is) = (λ z. is z ∷ []) ∙ sym (ap (λ (y : Item Instance). if y.is_put then key_of j x.makes ∷ [] else []) e)
  named-key (named.Eval n o) x (e, site) = sym (ap (put_key j) e)

  few-keys : (x : Item Instance) → length (put_key j x) ≤ 1
  few-keys x = go x.is_put
    where
      go : (b : Bool) → length (if b then key_of j x.makes ∷ [] else []) ≤ 1
      go true = omega arith
      go false = omega arith

  -- one item more was counted
  pub counted-next : (r n puts : ℕ) (name : Named) → IsFirst j (drop n (list j r)) (Some name) → puts ≡ length (keys_at j r n) → puts ≤ n
      → (n < length (list j r)) × (drop 1 (drop n (list j r)) ≡ drop (n + 1) (list j r)) × (puts + length (named_keys name) ≡ length (keys_at j r (n + 1))) × (puts + length (named_keys name) ≤ n + 1)
  counted-next r n puts name first is few =
      let f = first-item (drop n (list j r)) name first in
      let there = next-there (list j r) n f.0 f.1 f.2 in
      let w = slice_get_within (list j r) n f.0 there in
      let k = ap length (named-key name f.0 f.3) in
      let a = ap length (keys-next r n f.0 there) in
      let b = length-append (keys_at j r n) (put_key j f.0) in
      let c = few-keys f.0 in
      (w, ap (drop 1) (drop-item (list j r) n f.0 there), omega (arith, k, a, b, is), omega (arith, k, c, few))

  -- a region's list isn't longer than that of all items
  pub few-own : IsTask j → (r : ℕ) → length (list j r) ≤ 2 * most_instances
  few-own task r = let a = filtered (items j) in let b = few-items j task in omega (arith, a, b)
    where
      filtered : (l : List (Item Instance)) → length (own (machine j) r l) ≤ length l
      filtered [] = omega arith
      filtered (x ∷ xs) = go (home j x.makes == r) (filtered xs)
        where
          go : (b : Bool) → length (own (machine j) r xs) ≤ length xs → length (if b then x ∷ own (machine j) r xs else own (machine j) r xs) ≤ length (x ∷ xs)
          go true h = omega (arith, h)
          go false h = omega (arith, h)

  -- the item at which a region stands, by the name that its cursor gives
  pub stands-eval : (r n : ℕ) (l : List (Item Instance)) (name : Named) (node : NodeId) (o : Occ) → l ≡ drop n (list j r) → IsFirst j l (Some name) → name ≡ named.Eval node o
      → (slice_get (list j r) n ≡ Some (eval_of (instance_at j.flat node.0 o))) × IsSite j.symbols j.rules j.flat (instance_at j.flat node.0 o) node.0 o
  stands-eval r n l name node o rest first is =
      let f = first-item (drop n (list j r)) (named.Eval node o) (subst (λ z. IsFirst j (drop n (list j r)) (Some z)) is (subst (λ z. IsFirst j z (Some name)) rest first)) in
      (next-there (list j r) n f.0 f.1 f.2 ∙ ap Some f.3.0, f.3.1)

  pub stands-put : (r n : ℕ) (l : List (Item Instance)) (name : Named) (key : ℕ) → l ≡ drop n (list j r) → IsFirst j l (Some name) → name ≡ named.Put key
      → (i : Instance) × (slice_get (list j r) n ≡ Some (put_of i)) × IsShared j i × (key ≡ key_of j i)
  stands-put r n l name key rest first is =
      let f = first-item (drop n (list j r)) (named.Put key) (subst (λ z. IsFirst j (drop n (list j r)) (Some z)) is (subst (λ z. IsFirst j z (Some name)) rest first)) in
      (f.0.makes, next-there (list j r) n f.0 f.1 f.2 ∙ ap Some f.3.0, f.3.1, f.3.2)
