-- Where the values of a region's nodes stand: each at a place of its own.
use Rattle.std.specs.Prelude.{sum_by, map, ◌==◌, if◌then◌else◌}
use Rattle.std.specs.List.{range_with_len}
use Rattle.std.proofs.Common.{◌≡◌, ◌≤◌, ◌<◌, ◌+◌, ◌-◌, ◌⊎◌, ℕ, zero, suc, Bool, true, false, List, [], ◌∷◌, ◌++◌, length, arith, ap, sym, ◌∙◌, get_or, inl, inr, eq-eqb, refl}
use Rattle.std.proofs.lemmas.Bool.{cases_order}
use Rattle.std.proofs.lemmas.List.Sums.{sum_by-append, sum_by-cons}
use Rattle.std.proofs.lemmas.List.FromFn.{length-map-range_with_len, get_or-map-range_with_len, map-range_with_len_more}
use Rattle.tree_store.specs.Regions.{region}
use Rattle.flat_grammar.specs.Fitting.{most_instances}
use Rattle.flat_grammar.specs.WholeOrder.{Instance}
use Rattle.flat_grammar.specs.Instances.{IsInstance}
use Rattle.core_machine.specs.Core.{Task, IsTask}
use Rattle.core_machine.specs.Slots.{width, offset}
use Rattle.core_machine.proofs.Jobs.{grown}
use Rattle.core_machine.proofs.Sites.{inside}
use Rattle.core_machine.proofs.SlotLemmas.{rule-width, few-here, offset-more}
use Rattle.core_machine.proofs.CursorReads.{range-push}
use Rattle.lido_base.specs.Tree.{contains}
use Rattle.flat_grammar.specs.declared.flat.Occ.{Occ}
use Rattle.core_machine.specs.Instances.{IsSite}
use Rattle.core_machine.proofs.RunLemmas.{site-is}
use Rattle.region_engine.proofs.Shared.{near-node, site-home}
use Rattle.region_engine.specs.Kept.{own_width, own_offset, own_offsets}

module _ (j : Task) (r : ℕ) where
  pub own-more : (n : ℕ) → own_offset j r (n + 1) ≡ own_offset j r n + own_width j r n
  own-more n =
      let last : 0 + n ≡ n = omega arith in
      let list = range-push 0 n ∙ ap (λ z. range_with_len 0 n ++ z ∷ []) last in
      let a = ap (sum_by (own_width j r)) list ∙ sum_by-append (own_width j r) (range_with_len 0 n) (n ∷ []) in
      let b = sum_by-cons (own_width j r) n [] in
      omega (arith, a, b)

  -- nodes that come later begin later
  behind : (k n : ℕ) → own_offset j r n + own_width j r n ≤ own_offset j r (n + 1 + k)
  behind zero n = let e = own-more n in let f : n + 1 + 0 ≡ n + 1 = omega arith in let g = ap (own_offset j r) f in omega (arith, e, g)
  behind (suc k) n =
      let rest = behind k n in
      let e = own-more (n + 1 + k) in
      let f : n + 1 + k + 1 ≡ n + 1 + suc k = omega arith in
      let g = ap (own_offset j r) f in
      omega (arith, rest, e, g)

  pub own-later : (n m : ℕ) → n < m → own_offset j r n + own_width j r n ≤ own_offset j r m
  own-later n m h =
      let e : n + 1 + (m - (n + 1)) ≡ m = omega (arith, h) in
      let g = ap (own_offset j r) e in let b = behind (m - (n + 1)) n in omega (arith, g, b)

  pub narrow : (n : ℕ) → own_width j r n ≤ width j n
  narrow n = go (region j.flat j.nodes n == r)
    where
      go : (b : Bool) → (if b then width j n else 0) ≤ width j n
      go true = omega arith
      go false = omega arith

  -- no more than all nodes have
  below : (n : ℕ) → own_offset j r n ≤ offset j n
  below zero = omega arith
  below (suc n) =
      let e : n + 1 ≡ suc n = omega arith in
      let f = ap (own_offset j r) e in let g = ap (offset j) e in
      let a = own-more n in let b = offset-more j n in let c = narrow n in let d = below n in
      omega (arith, f, g, a, b, c, d)

  pub own-count : length (own_offsets j r) ≡ suc (length j.flat)
  own-count = length-map-range_with_len (own_offset j r) 0 (suc (length j.flat))

  pub own-read : (begins : List ℕ) → begins ≡ own_offsets j r → (n : ℕ) → n < suc (length j.flat) → (n < length begins) × (get_or begins n 0 ≡ own_offset j r n)
  own-read begins e n h =
      let a = ap length e in let b = own-count in
      (omega (arith, a, b, h), ap (λ l. get_or l n 0) e ∙ get_or-map-range_with_len (own_offset j r) 0 (suc (length j.flat)) n n 0 h (omega arith))

  pub own-push : (n : ℕ) (xs ys : List ℕ) (x : ℕ) → xs ≡ map (own_offset j r) (range_with_len 0 n) → x ≡ own_offset j r n → ys ≡ xs ++ x ∷ [] → ys ≡ map (own_offset j r) (range_with_len 0 (n + 1))
  own-push n xs ys x e f g = g ∙ ap (λ l. l ++ x ∷ []) e ∙ ap (λ z. map (own_offset j r) (range_with_len 0 n) ++ z ∷ []) f ∙ sym (map-range_with_len_more (own_offset j r) 0 n n (omega arith))

  pub own-width : (n : ℕ) → region j.flat j.nodes n ≡ r → own_width j r n ≡ width j n
  own-width n e = rw (eq-eqb (region j.flat j.nodes n) r e) refl

  module _ (task : IsTask j) where
    pub own-few : (n : ℕ) → n < length j.flat → own_offset j r n + own_width j r n ≤ most_instances
    own-few n h = let a = few-here j task n h in let b = below n in let c = narrow n in omega (arith, a, b, c)

    -- an instance at a node of the region has its place
    pub own-inside : (i : Instance) → IsInstance j.symbols j.rules j.flat i → region j.flat j.nodes i.0 ≡ r → own_offset j r i.0 + i.1 < own_offset j r (length j.flat)
    own-inside i (q, at, few) own =
        let n = inside j.symbols j.rules j.shapes j.root j.flat task.formed (grown j task) task.root_bare i.0 q at in
        let a = own-later i.0 (length j.flat) n in
        let b = rule-width j i.0 q at in let c = own-width i.0 own in
        omega (arith, a, b, c, few)

    -- and no two have one place
    pub own-apart : (i k : Instance) → IsInstance j.symbols j.rules j.flat i → IsInstance j.symbols j.rules j.flat k → region j.flat j.nodes i.0 ≡ r → region j.flat j.nodes k.0 ≡ r
        → own_offset j r i.0 + i.1 ≡ own_offset j r k.0 + k.1 → i ≡ k
    own-apart i k (q, at, few) (p, there, low) mine yours e = go (cases_order i.0 k.0)
      where
        go : (i.0 ≡ k.0) ⊎ ((i.0 < k.0) ⊎ (k.0 < i.0)) → i ≡ k
        go (inl same) = let o = ap (own_offset j r) same in let a : i.1 ≡ k.1 = omega (arith, o, e) in λ x. (same x, a x)
        go (inr (inl l)) = let o = own-later i.0 k.0 l in let w = rule-width j i.0 q at in let c = own-width i.0 mine in absurd (omega (arith, o, w, c, few, e))
        go (inr (inr l)) = let o = own-later k.0 i.0 l in let w = rule-width j k.0 p there in let c = own-width k.0 yours in absurd (omega (arith, o, w, c, low, e))

    -- a goal that isn't of a split node has its place in the region of its site
    pub goal-place : (i : Instance) (n : ℕ) (o : Occ) → IsSite j.symbols j.rules j.flat i n o → contains i.0 j.nodes ≡ false → region j.flat j.nodes n ≡ r
        → own_offset j r i.0 + i.1 < own_offset j r (length j.flat)
    goal-place i n o site not own =
        let is = site-is j task i n o site in
        own-inside i is (near-node j task i is not ∙ site-home j task i n o site ∙ own)
