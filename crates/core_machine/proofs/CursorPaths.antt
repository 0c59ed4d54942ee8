-- The visits under way lead down from the region's root, each a level further.
use Rattle.std.specs.Prelude.{slice_get, filter, fold, max, map, Contains, if◌then◌else◌, unwrap_or, ◌==◌}
use Rattle.std.specs.List.{range_with_len}
use Rattle.std.proofs.Common.{◌≡◌, ◌≤◌, ◌<◌, ◌+◌, ℕ, zero, suc, List, [], ◌∷◌, ◌++◌, length, Bool, true, false, Option, Some, None, refl, arith, ap, sym, subst, ◌∙◌, eq-eqb, ◌⊎◌, inl, inr}
use Rattle.std.proofs.Math.Nat.{le-max_left, le-max_right}
use Rattle.std.proofs.lemmas.Option.{none-some, slice_get-get_or}
use Rattle.std.proofs.lemmas.List.FromFn.{length-range_with_len, get_or-range_with_len}
use Rattle.std.proofs.lemmas.List.Kept.{AllPairs-from_increasing}
use Rattle.std.proofs.lemmas.List.Elements.{All-contains}
use Rattle.lido_base.specs.Tree.{IsTree, contains, parent_of, ancestors}
use Rattle.lido_base.proofs.TreeLemmas.{ancestors-child, ancestors-root}
use Rattle.lido_base.proofs.PathLemmas.{with_parent_inside}
use Rattle.lido_base.proofs.Lists.{map-contains}
use Rattle.tree_store.specs.Regions.{region, number_among}
use Rattle.flat_grammar.proofs.Lists.{contains-nil, contains-cons, contains-first, contains-later, contains-slice_get}
use Rattle.core_machine.specs.declared.cursor.Frame.{Frame}
use Rattle.core_machine.specs.Core.{Task, IsTask}
use Rattle.core_machine.specs.Walks.{root_of}
use Rattle.core_machine.specs.Cursors.{up_to_split, level, levels, IsBelow, IsPath}
use Rattle.core_machine.proofs.KeyLemmas.{place}
use Rattle.core_machine.proofs.Tasks.{region-parent}
use Rattle.core_machine.proofs.RegionWalks.{tree, region-of-root, region-split, one-index, contains-true}

pub max-bound : (xs : List ℕ) (a : ℕ) → a ≤ fold max a xs
max-bound [] a = omega arith
max-bound (x ∷ xs) a = let e = max-bound xs (max a x) in let f = le-max_left a x in omega (arith, e, f)

pub max-above : (xs : List ℕ) (a x : ℕ) → Contains xs x → x ≤ fold max a xs
max-above [] a x m = absurd (contains-nil x m)
max-above (y ∷ xs) a x m = go (contains-cons y x xs m) (max-above xs (max a y) x)
  where
    go : (y ≡ x) ⊎ Contains xs x → (Contains xs x → x ≤ fold max (max a y) xs) → x ≤ fold max (max a y) xs
    go (inl e) later = let f = max-bound xs (max a y) in let g = le-max_right a y in omega (arith, e, f, g)
    go (inr n) later = later n

pub filter-keeps : {A : Type 0} (p : A → Bool) (xs : List A) (x : A) → Contains xs x → p x ≡ true → Contains (filter p xs) x
filter-keeps p [] x m e = absurd (contains-nil x m)
filter-keeps p (y ∷ xs) x m e = go (p y) refl (contains-cons y x xs m) (λ n. filter-keeps p xs x n e)
  where
    go : (b : Bool) → p y ≡ b → (y ≡ x) ⊎ Contains xs x → (Contains xs x → Contains (filter p xs) x) → Contains (filter p (y ∷ xs)) x
    go true f (inl s) later = rw f (subst (λ z. Contains (y ∷ filter p xs) z) s (contains-first y (filter p xs)))
    go true f (inr n) later = rw f (contains-later y x (filter p xs) (later n))
    go false f (inl s) later = let h : true ≡ false = sym e ∙ ap p (sym s) ∙ f in absurd (cc)
    go false f (inr n) later = rw f (later n)

pub in-range : (n count : ℕ) → n < count → Contains (range_with_len 0 count) n
in-range n count h = contains-slice_get (range_with_len 0 count) n n
    (slice_get-get_or (range_with_len 0 count) n 0 (let l = length-range_with_len 0 count in omega (arith, l, h))
    ∙ ap Some (let e = get_or-range_with_len 0 count n 0 h in omega (arith, e)))

module _ (j : Task) (task : IsTask j) where
  t : IsTree j.flat
  t = tree j task

  -- a node of the region, at this level
  pub record Stands (r n k : ℕ) : Type 0 where
    pub inside : n < length j.flat
    pub within : region j.flat j.nodes n ≡ r
    pub deep : level j n ≡ k

  pub one-level : (n : ℕ) → up_to_split j (n ∷ []) ≡ 1
  one-level n = go (contains n j.nodes)
    where
      go : (b : Bool) → (if b then 1 else suc 0) ≡ 1
      go true = refl
      go false = refl

  pub stands-root : (r : ℕ) → r ≤ length j.nodes → Stands r (root_of j.nodes r) 1
  stands-root zero h = record { inside = t.has_root; within = region-of-root j task; deep = ap (λ l. up_to_split j (0 ∷ l)) (ancestors-root j.flat 0 t.root_first) ∙ one-level 0 }
  stands-root (suc k) h = go (slice_get j.nodes k) refl
    where
      go : (x : Option ℕ) → slice_get j.nodes k ≡ x → Stands (suc k) (unwrap_or x 0) 1
      go None e = absurd (none-some _ (sym e ∙ slice_get-get_or j.nodes k 0 (omega (arith, h))))
      go (Some s) e =
          let among = contains-slice_get j.nodes k s e in
          let inside = All-contains (λ n. (0 < n) × (n < length j.flat)) j.nodes s task.nodes_inside among in
          let split : contains s j.nodes ≡ true = contains-true j.nodes k s e in
          let p = place 1 j.nodes s split in
          let number : number_among j.nodes s ≡ suc k = let a = p.number in let b = one-index j.nodes (AllPairs-from_increasing j.nodes task.nodes_ascend) p.index k s p.there e in omega (arith, a, b) in
          record { inside = inside.1; within = region-split j task s split ∙ number; deep = ap (λ (b : Bool). if b then 1 else suc (up_to_split j (ancestors j.flat s))) split }

  pub stands-child : (r p c k : ℕ) → Stands r p k → parent_of j.flat c ≡ Some p → contains c j.nodes ≡ false → Stands r c (suc k)
  stands-child r p c k s e not = record {
    inside = with_parent_inside j.flat c p e;
    within = region-parent j.flat t j.nodes c p e not ∙ s.within;
    deep = ap (λ l. up_to_split j (c ∷ l)) (ancestors-child j.flat t c p e) ∙ ap (λ (b : Bool). if b then 1 else suc (level j p)) not ∙ ap suc s.deep;
  }

  below-top : (r p k : ℕ) (inner : List Frame) (top : Frame) → Stands r p k → IsBelow j p (inner ++ top ∷ []) → Stands r top.node (length inner + 1 + k)
  below-top r p k [] top s (e, not, b) = let n : suc k ≡ 0 + 1 + k = omega arith in subst (λ z. Stands r top.node z) n (stands-child r p top.node k s e not)
  below-top r p k (f ∷ inner) top s (e, not, b) =
      let n : length inner + 1 + suc k ≡ suc (length inner) + 1 + k = omega arith in
      subst (λ z. Stands r top.node z) n (below-top r f.node (suc k) inner top (stands-child r p f.node k s e not) b)

  -- the innermost visit is of a node of the region, whose level is the number of visits
  pub path-top : (r : ℕ) (front : List Frame) (top : Frame) → r ≤ length j.nodes → IsPath j r (front ++ top ∷ []) → Stands r top.node (length front + 1)
  path-top r [] top h (e, b) = subst (λ z. Stands r z 1) (sym e) (stands-root r h)
  path-top r (f ∷ inner) top h (e, b) =
      let n : length inner + 1 + 1 ≡ suc (length inner) + 1 = omega arith in
      subst (λ z. Stands r top.node z) n (below-top r f.node 1 inner top (subst (λ z. Stands r z 1) (sym e) (stands-root r h)) b)

  -- a region has as many levels as each of its nodes needs
  pub level-within : (r n k : ℕ) → Stands r n k → k ≤ levels j r
  level-within r n k s =
      let m = map-contains (level j) (filter (λ n. region j.flat j.nodes n == r) (range_with_len 0 (length j.flat))) n
      (filter-keeps (λ n. region j.flat j.nodes n == r) (range_with_len 0 (length j.flat)) n (in-range n (length j.flat) s.inside) (eq-eqb (region j.flat j.nodes n) r s.within)) in
      let e = max-above (map (level j) (filter (λ n. region j.flat j.nodes n == r) (range_with_len 0 (length j.flat)))) 0 (level j n) m in
      let d = s.deep in omega (arith, e, d)

module _ (j : Task) where
  below-pop : (p : ℕ) (inner : List Frame) (top : Frame) → IsBelow j p (inner ++ top ∷ []) → IsBelow j p inner
  below-pop p [] top b = tt
  below-pop p (f ∷ inner) top (e, not, b) = (e, not, below-pop f.node inner top b)

  pub path-pop : (r : ℕ) (front : List Frame) (top : Frame) → IsPath j r (front ++ top ∷ []) → IsPath j r front
  path-pop r [] top b = tt
  path-pop r (f ∷ inner) top (e, b) = (e, below-pop f.node inner top b)

  below-same : (p : ℕ) (inner : List Frame) (f g : Frame) → g.node ≡ f.node → IsBelow j p (inner ++ f ∷ []) → IsBelow j p (inner ++ g ∷ [])
  below-same p [] f g same (e, not, b) = (ap (λ z. parent_of j.flat z) same ∙ e, ap (λ z. contains z j.nodes) same ∙ not, tt)
  below-same p (h ∷ inner) f g same (e, not, b) = (e, not, below-same h.node inner f g same b)

  pub path-same : (r : ℕ) (front : List Frame) (f g : Frame) → g.node ≡ f.node → IsPath j r (front ++ f ∷ []) → IsPath j r (front ++ g ∷ [])
  path-same r [] f g same (e, b) = (same ∙ e, tt)
  path-same r (h ∷ inner) f g same (e, b) = (e, below-same h.node inner f g same b)

  below-push : (p : ℕ) (inner : List Frame) (top g : Frame) → parent_of j.flat g.node ≡ Some top.node → contains g.node j.nodes ≡ false → IsBelow j p (inner ++ top ∷ []) → IsBelow j p ((inner ++ top ∷ []) ++ g ∷ [])
  below-push p [] top g up own (e, not, b) = (e, not, (up, own, tt))
  below-push p (h ∷ inner) top g up own (e, not, b) = (e, not, below-push h.node inner top g up own b)

  pub path-push : (r : ℕ) (front : List Frame) (top g : Frame) → parent_of j.flat g.node ≡ Some top.node → contains g.node j.nodes ≡ false → IsPath j r (front ++ top ∷ []) → IsPath j r ((front ++ top ∷ []) ++ g ∷ [])
  path-push r [] top g up own (e, b) = (e, (up, own, tt))
  path-push r (h ∷ inner) top g up own (e, b) = (e, below-push h.node inner top g up own b)
