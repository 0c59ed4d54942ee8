-- A region's put: the value under its key, its owner, and the room for its key.
use Rattle.std.specs.Prelude.{Contains, flat_map, option_map, unwrap_or, slice_get, slice_index, vec_capacity, if◌then◌else◌}
use Rattle.std.proofs.lemmas.List.FromFn.{get_or-map-range_with_len}
use Rattle.std.proofs.lemmas.Option.{slice_get_within}
use Rattle.std.proofs.lemmas.List.{take-append-drop}
use Rattle.std.proofs.lemmas.Grind.{flat_map-append}
use Rattle.std.proofs.Common.{◌≡◌, ◌<◌, ◌≤◌, ◌+◌, ℕ, zero, suc, true, List, [], ◌∷◌, ◌++◌, length, length-append, take, drop, Some, refl, arith, ap, sym, ◌∙◌, subst, eq-eqb, true≢false, inl, inr}
use Rattle.std.proofs.lemmas.List.Elements.{Contains-append_cases}
use Rattle.lido_base.proofs.Lists.{contains-nil, contains-cons}
use Rattle.boundary_table.specs.Desk.{IsOwner}
use Rattle.boundary_table.specs.Rule.{mem}
use Rattle.flat_grammar.specs.WholeOrder.{Instance}
use Rattle.core_machine.specs.Machine.{Item, eval_of, put_of}
use Rattle.core_machine.specs.Core.{Task, IsTask, home, items, machine}
use Rattle.core_machine.specs.Keys.{key_of, key_count, owner_at, owners_of, contents_of, IsShared}
use Rattle.core_machine.proofs.Jobs.{sound}
use Rattle.core_machine.proofs.KeyLemmas.{counted, named}
use Rattle.core_machine.proofs.Regions.{Found, own_found}
use Rattle.region_engine.specs.declared.region.Region.{Region}
use Rattle.region_engine.specs.Behind.{list, put_key, keys_at}
use Rattle.region_engine.specs.Kept.{IsBehind}
use Rattle.region_engine.specs.Regions.{IsRegionOf}
use Rattle.region_engine.proofs.Lists.{among-own, front-own, keys-next, room-next, space-next, take-more}

module _ (j : Task) (task : IsTask j) (r : ℕ) (g : Region) (at : IsRegionOf j r g) (i : Instance) (next : slice_get (list j r) g.position ≡ Some (put_of i)) (shared : IsShared j i) where
  f : Found (machine j) r (items j) g.position (put_of i)
  f = own_found (machine j) r (items j) g.position (put_of i) next

  pub put-inside : key_of j i < length g.values.shared.items
  put-inside = let a = counted j task i shared in let b = at.behind.sized.keys in omega (arith, a, b)

  -- it was evaluated before
  pub put-value : slice_get g.values.shared.items (key_of j i) ≡ slice_get (contents_of j) (key_of j i)
  put-value =
      let c = (sound j task).put_behind f.front f.back i f.whole in
      let m = subst (λ l. Contains l (eval_of i)) (sym (front-own j r g.position (put_of i) f)) (among-own j r f.front (eval_of i) f.home c) in
      at.behind.keeps.marked (key_of j i) (at.behind.keeps.evaluated i m shared.0)

  -- by the region that owns its key
  pub put-owner : g.numbered ≡ true → IsOwner g.desk (key_of j i)
  put-owner has =
      let n : slice_index (owners_of j) (key_of j i) ≡ r =
      get_or-map-range_with_len (owner_at j) 0 (key_count j) (key_of j i) (key_of j i) 0 (counted j task i shared) (omega arith)
      ∙ ap (λ o. unwrap_or (option_map (home j) o) 0) (named j task i shared) ∙ f.home in
      let numbers : g.desk.view.numbers ≡ r ∷ [] = at.desk.numbers ∙ ap (λ b. if b then r ∷ [] else []) has in
      ap (λ l. mem (slice_index l (key_of j i)) g.desk.view.numbers) at.desk.owners
      ∙ ap (λ k. mem k g.desk.view.numbers) n
      ∙ ap (λ l. mem r l) numbers
      ∙ rw (eq-eqb r r refl) refl

  -- the list of keys has room for this one
  pub put-room : length g.puts.items < vec_capacity g.puts
  put-room =
      let w = slice_get_within (list j r) g.position (put_of i) next in
      let a = ap length (keys-next j r g.position (put_of i) next) in
      let b = length-append (keys_at j r g.position) (put_key j (put_of i)) in
      let c = longer in
      let d = at.puts_room in let e = ap length at.puts in
      omega (arith, a, b, c, d, e)
    where
      take-take : {A : Type 0} (l : List A) (n m : ℕ) → n ≤ m → take n (take m l) ≡ take n l
      take-take [] zero m h = refl
      take-take [] (suc n) zero h = refl
      take-take [] (suc n) (suc m) h = refl
      take-take (x ∷ xs) zero m h = refl
      take-take (x ∷ xs) (suc n) zero h = absurd (omega (arith, h))
      take-take (x ∷ xs) (suc n) (suc m) h = ap (λ l. x ∷ l) (take-take xs n m (omega (arith, h)))

      longer : length (keys_at j r (g.position + 1)) ≤ length (keys_at j r g.count)
      longer =
          let w = slice_get_within (list j r) g.position (put_of i) next in let c = at.count in
          let front = take-take (list j r) (g.position + 1) g.count (omega (arith, w, c)) in
          let parts = sym (take-append-drop (g.position + 1) (take g.count (list j r))) ∙ ap (λ l. l ++ drop (g.position + 1) (take g.count (list j r))) front in
          let keys = ap (flat_map (put_key j)) parts ∙ flat_map-append (put_key j) (take (g.position + 1) (list j r)) (drop (g.position + 1) (take g.count (list j r))) in
          let a = ap length keys in
          let b = length-append (keys_at j r (g.position + 1)) (flat_map (put_key j) (drop (g.position + 1) (take g.count (list j r)))) in
          omega (arith, a, b)

  -- nothing changes by it in what the region keeps
  pub put-behind : IsBehind j r (g.position + 1) g.values g.bench.room
  put-behind =
      let b = at.behind in
      let same : (k : Instance) → Contains (take (g.position + 1) (list j r)) (eval_of k) → Contains (take g.position (list j r)) (eval_of k) = before in
      record {
        region = b.region;
        sized = b.sized;
        keeps = record {
          values = λ k m. b.keeps.values k (same k m);
          marked = b.keeps.marked;
          evaluated = λ k m is. b.keeps.evaluated k (same k m) is;
          owned = b.keeps.owned;
        };
        number = b.number;
        deposits = b.deposits ∙ sym (room-next j r g.position (put_of i) next);
        space = let a = space-next j r g.position (put_of i) next in let c = b.space in omega (arith, a, c);
      }
    where
      before : (k : Instance) → Contains (take (g.position + 1) (list j r)) (eval_of k) → Contains (take g.position (list j r)) (eval_of k)
      before k m = elim (Contains-append_cases (take g.position (list j r)) (put_of i ∷ []) (eval_of k) (subst (λ l. Contains l (eval_of k)) (take-more (list j r) g.position (put_of i) next) m)) [
        | inl old ↦ old
        | inr c ↦ elim (contains-cons (put_of i) (eval_of k) [] c) [
          | inl e ↦ absurd (true≢false (ap (λ (z : Item Instance). z.is_put) e))
          | inr none ↦ absurd (contains-nil (eval_of k) none)
        ]
      ]
