-- The list of each region is its walk: what the items of a node give to the region of the node, and to others.
use Rattle.std.specs.Prelude.{◌||◌, unwrap_or, Contains, IsTrue, AllPairs, flat_map, find, slice_get, if◌then◌else◌}
use Rattle.std.specs.List.{range_with_len}
use Rattle.std.proofs.Common.{append_assoc, ◌≡◌, ◌≤◌, ℕ, length, List, [], ◌∷◌, ◌++◌, Bool, true, false, Option, Some, None, refl, ap, sym, subst, ◌∙◌, eq-eqb, eqb-true, inl, inr, ◌-◌, ◌<◌, ◌+◌, ◌⊎◌, zero, suc, arith}
use Rattle.std.proofs.lemmas.List.Elements.{filter-append}
use Rattle.std.proofs.lemmas.Grind.{flat_map-append}
use Rattle.std.proofs.lemmas.Bool.{cases_Bool, cases_order}
use Rattle.std.proofs.Math.Dec.{eqb}
use Rattle.std.proofs.lemmas.List.Elements.{All-contains}
use Rattle.lido_base.specs.declared.ids.SymId.{SymId}
use Rattle.lido_base.specs.Tree.{IsTree, contains, children, parent_of, place_of, continues}
use Rattle.lido_base.proofs.TreeLemmas.{from_children-step, children_behind, parent_before, ancestors-root}
use Rattle.flat_grammar.proofs.WholeOrderLemmas.{child_at-child, order-step}
use Rattle.tree_store.specs.Regions.{region, number_among, number_found}
use Rattle.flat_grammar.specs.declared.flat.Occ.{Occ}
use Rattle.flat_grammar.specs.declared.flat.FlatRule.{FlatRule}
use Rattle.flat_grammar.specs.declared.plan.PlanItem.{PlanItem}
use Rattle.flat_grammar.specs.declared.plan.PlanItem.TheVariants.{Eval, Visit, Leave}
use Rattle.flat_grammar.specs.Rules.{HasRule}
use Rattle.flat_grammar.specs.SoundPlan.{is_visit_of, visits_made, IsSoundSequence}
use Rattle.flat_grammar.specs.WellFormed.{IsRule}
use Rattle.core_machine.proofs.Sequences.{visits-yes, visits-no, visits-first}
use Rattle.core_machine.proofs.Lists.{split-among}
use Rattle.std.proofs.lemmas.List.Kept.{AllPairs-from_increasing}
use Rattle.std.proofs.lemmas.Option.{slice_get-get_or, none-some, slice_get_within}
use Rattle.std.proofs.Common.{get_or}
use Rattle.flat_grammar.specs.WholeOrder.{Instance, segment, child_at, sequence_at, visit_order, item_order, order}
use Rattle.flat_grammar.specs.Instances.{instance_at}
use Rattle.flat_grammar.proofs.Lists.{held, contains-slice_get, contains-first, contains-later}
use Rattle.core_machine.specs.Machine.{Item, eval_of, put_of, own}
use Rattle.core_machine.specs.Core.{Task, IsTask, home, items, items_for, machine}
use Rattle.core_machine.specs.Walks.{own_visit, own_item, own_order, walk}
use Rattle.core_machine.proofs.Trees.{Sub, here, below, child-facts, sub-later, sub-child, siblings, parent-child}
use Rattle.core_machine.proofs.KeyLemmas.{place}
use Rattle.core_machine.proofs.Segments.{leaves, segment-in}
use Rattle.core_machine.proofs.JoinedSegments.{joined, whole, EndsInLeave, ends, leaves-end}
use Rattle.core_machine.proofs.Sites.{one-site, site-instance, child-symbol}
use Rattle.core_machine.proofs.Walk.{site-of, sound-at}
use Rattle.core_machine.proofs.Tasks.{computes, computed, home-is, region-parent}
use Rattle.core_machine.proofs.Tasks as tasks
use Rattle.flat_grammar.specs.declared.plan.VisitClass.{VisitClass}
use Rattle.flat_grammar.proofs.SoundPlanLemmas.{at-place, at-end}
use Rattle.core_machine.proofs.Jobs.{grown, in-order}

pub one-index : (xs : List ℕ) → AllPairs (λ x y. x < y) xs → (i k s : ℕ) → slice_get xs i ≡ Some s → slice_get xs k ≡ Some s → i ≡ k
one-index xs h i k s e f = go (cases_order i k)
  where
    at-index : (m : ℕ) → slice_get xs m ≡ Some s → get_or xs m 0 ≡ s
    at-index m g = let w = slice_get_within xs m s g in held (sym (slice_get-get_or xs m 0 (omega (arith, w))) ∙ g)

    go : (i ≡ k) ⊎ ((i < k) ⊎ (k < i)) → i ≡ k
    go (inl same) = same
    go (inr (inl l)) = let w = slice_get_within xs k s f in let x = h i k 0 l (omega (arith, w)) in let y = at-index i e in let z = at-index k f in absurd (omega (arith, x, y, z))
    go (inr (inr l)) = let w = slice_get_within xs i s e in let x = h k i 0 l (omega (arith, w)) in let y = at-index i e in let z = at-index k f in absurd (omega (arith, x, y, z))

pub contains-true : (xs : List ℕ) (k s : ℕ) → slice_get xs k ≡ Some s → contains s xs ≡ true
contains-true [] k s e = absurd (none-some _ e)
contains-true (x ∷ xs) zero s e = rw (eq-eqb s x (sym (held e))) refl
contains-true (x ∷ xs) (suc k) s e = go (eqb s x) (contains-true xs k s e)
  where
    go : (b : Bool) → contains s xs ≡ true → (b || contains s xs) ≡ true
    go true later = refl
    go false later = later

module _ (j : Task) where
  abbrev inst : ℕ → Occ → Instance
  inst n o = instance_at j.flat n o

  -- the items of instances that a region takes
  abbrev pub mine : ℕ → List Instance → List (Item Instance)
  mine r xs = own (machine j) r (flat_map (items_for j) xs)

  pub mine-append : (r : ℕ) (xs ys : List Instance) → mine r (xs ++ ys) ≡ mine r xs ++ mine r ys
  mine-append r xs ys = ap (λ l. own (machine j) r l) (flat_map-append (items_for j) xs ys) ∙ filter-append _ (flat_map (items_for j) xs) (flat_map (items_for j) ys)

  pub mine-own : (r : ℕ) (i : Instance) → home j i ≡ r → mine r (i ∷ []) ≡ items_for j i
  mine-own r i e = go (contains i.0 j.nodes)
    where
      go : (b : Bool) → own (machine j) r ((if b then eval_of i ∷ put_of i ∷ [] else eval_of i ∷ []) ++ []) ≡ (if b then eval_of i ∷ put_of i ∷ [] else eval_of i ∷ [])
      go true = rw (eq-eqb (home j i) r e) refl
      go false = rw (eq-eqb (home j i) r e) refl

  pub mine-else : (r : ℕ) (i : Instance) → (home j i ≡ r → ⊥) → mine r (i ∷ []) ≡ []
  mine-else r i e = elim (cases_Bool (eqb (home j i) r)) [ inl h ↦ absurd (e (eqb-true (home j i) r h)) | inr h ↦ go h (contains i.0 j.nodes) ]
    where
      go : eqb (home j i) r ≡ false → (b : Bool) → own (machine j) r ((if b then eval_of i ∷ put_of i ∷ [] else eval_of i ∷ []) ++ []) ≡ []
      go h true = rw h refl
      go h false = rw h refl

  module _ (n : ℕ) (f g : ℕ → ℕ → List (Item Instance)) (same : (c : ℕ) → Contains (children j.flat n) c → f c ≡ g c) where
    visit-same : (k v : ℕ) (o : Option ℕ) → child_at j.flat n k ≡ o → own_visit j f o v ≡ own_visit j g o v
    visit-same k v None e = refl
    visit-same k v (Some c) e = ap (λ l. if contains c j.nodes then [] else l) (ap (λ h. h v) (same c (child_at-child j.flat n k c e)))

    items-same : (some : List PlanItem) → flat_map (own_item j f n) some ≡ flat_map (own_item j g n) some
    items-same [] = refl
    items-same (Eval o ∷ some) = ap (λ l. own_item j f n (Eval o) ++ l) (items-same some)
    items-same (Visit k v ∷ some) = let e = visit-same k v (child_at j.flat n k) refl in let rest = items-same some in λ i. e i ++ rest i
    items-same (Leave v ∷ some) = ap (λ l. own_item j f n (Leave v) ++ l) (items-same some)

  pub own-order-step : IsTree j.flat → (n v : ℕ) → n < length j.flat → own_order j n v ≡ flat_map (own_item j (own_order j) n) (segment (v - 1) (sequence_at j.flat j.seqs n))
  unfolding own_order
  own-order-step w n v h = ap (λ (f : ℕ → List (Item Instance)). f v) (from_children-step j.flat (λ v. []) (λ below n v. flat_map (own_item j below n) (segment (v - 1) (sequence_at j.flat j.seqs n)))
      (λ n f g same. λ i v. items-same n f g same (segment (v - 1) (sequence_at j.flat j.seqs n)) i) (children_behind j.flat w) n h)

  module _ (task : IsTask j) where
    -- an evaluation at a node belongs to the node's region
    pub home-at : (n : ℕ) (q : FlatRule) → HasRule j.rules j.flat n q → (o : Occ) → Contains (sequence_at j.flat j.seqs n) (Eval o) → home j (inst n o) ≡ region j.flat j.nodes n
    home-at n q at o m =
        let g = grown j task in
        let s = site-of j.symbols j.rules j.shapes j.root j.flat task.formed g task.root_bare j.visits j.seqs task.sound n q o at m in
        let is = site-instance j.symbols j.rules j.shapes j.root j.flat task.formed g task.root_bare (inst n o) n o s in
        let k = computes j task g (in-order j task) (inst n o) is in
        let e = computed j task g (in-order j task) (inst n o) k.0 k.1 in
        let t = tasks.site-of j task g (in-order j task) (inst n o) k.0 e in
        let same = one-site j.symbols j.rules j.shapes j.root j.flat task.formed g task.root_bare (inst n o) n k.0.0 o k.0.2.goal s t in
        home-is j task g (in-order j task) (inst n o) k.0 k.1 ∙ ap (λ z. region j.flat j.nodes z) (sym same.0)

    -- Along items of a node in the region, where the children's visits give what they are to give.
    module _ (r n : ℕ) (q : FlatRule) (at : HasRule j.rules j.flat n q) (within : region j.flat j.nodes n ≡ r)
        (below : (k c v : ℕ) → child_at j.flat n k ≡ Some c → mine r (order j.flat j.seqs c v) ≡ own_visit j (own_order j) (Some c) v) where
      item-own : (item : PlanItem) → Contains (sequence_at j.flat j.seqs n) item → mine r (item_order j.flat j.seqs (order j.flat j.seqs) n item) ≡ own_item j (own_order j) n item
      item-own (Eval o) m = mine-own r (inst n o) (home-at n q at o m ∙ within)
      item-own (Leave v) m = refl
      item-own (Visit k v) m = go (child_at j.flat n k) refl
        where
          go : (x : Option ℕ) → child_at j.flat n k ≡ x → mine r (visit_order j.flat j.seqs (order j.flat j.seqs) x v) ≡ own_visit j (own_order j) x v
          go None e = refl
          go (Some c) e = below k c v e

      pub along-own : (some : List PlanItem) → ((item : PlanItem) → Contains some item → Contains (sequence_at j.flat j.seqs n) item)
          → mine r (flat_map (item_order j.flat j.seqs (order j.flat j.seqs) n) some) ≡ flat_map (own_item j (own_order j) n) some
      along-own [] h = refl
      along-own (item ∷ some) h =
          mine-append r (item_order j.flat j.seqs (order j.flat j.seqs) n item) (flat_map (item_order j.flat j.seqs (order j.flat j.seqs) n) some)
          ∙ ap (λ l. l ++ mine r (flat_map (item_order j.flat j.seqs (order j.flat j.seqs) n) some)) (item-own item (h item (contains-first item some)))
          ∙ ap (λ l. own_item j (own_order j) n item ++ l) (along-own some (λ x m. h x (contains-later item x some m)))

    pub tree : IsTree j.flat
    tree = (grown j task).tree

    abbrev pub SubOf : ℕ → ℕ → Type 0
    SubOf n d = Sub j.flat tree n d

    -- no node at n or below is in the region
    abbrev pub Away : ℕ → ℕ → Type 0
    Away r n = (m : ℕ) → SubOf n m → region j.flat j.nodes m ≡ r → ⊥

    away-child : (r n k c : ℕ) → child_at j.flat n k ≡ Some c → Away r n → Away r c
    away-child r n k c e a m s = a m (sub-child j.flat tree n c m (child-facts j.flat tree n k c e).parent s)

    -- such a node's visits give nothing to the region
    pub away-order : (r fuel n v : ℕ) → n < length j.flat → length j.flat ≤ fuel + n → Away r n → mine r (order j.flat j.seqs n v) ≡ []
    away-order r zero n v h k a = absurd (omega (arith, h, k))
    away-order r (suc fuel) n v h k a = let q = (grown j task).nodes n h in
        ap (λ l. mine r l) (order-step j.flat j.seqs tree n v h)
        ∙ along q.0 q.1 (λ c w l inside away. away-order r fuel c w inside (omega (arith, k, l)) away) (segment (v - 1) (sequence_at j.flat j.seqs n)) (λ item m. segment-in (v - 1) (sequence_at j.flat j.seqs n) item m)
      where
        one : (q : FlatRule) → HasRule j.rules j.flat n q → ((c w : ℕ) → n < c → c < length j.flat → Away r c → mine r (order j.flat j.seqs c w) ≡ []) → (item : PlanItem) → Contains (sequence_at j.flat j.seqs n) item
            → mine r (item_order j.flat j.seqs (order j.flat j.seqs) n item) ≡ []
        one q at later (Eval o) m = mine-else r (inst n o) (λ e. a n here (sym (home-at n q at o m) ∙ e))
        one q at later (Leave w) m = refl
        one q at later (Visit occ w) m = go (child_at j.flat n occ) refl
          where
            go : (x : Option ℕ) → child_at j.flat n occ ≡ x → mine r (visit_order j.flat j.seqs (order j.flat j.seqs) x w) ≡ []
            go None e = refl
            go (Some c) e = let f = child-facts j.flat tree n occ c e in later c w f.later f.inside (away-child r n occ c e a)

        along : (q : FlatRule) → HasRule j.rules j.flat n q → ((c w : ℕ) → n < c → c < length j.flat → Away r c → mine r (order j.flat j.seqs c w) ≡ []) → (some : List PlanItem)
            → ((item : PlanItem) → Contains some item → Contains (sequence_at j.flat j.seqs n) item) → mine r (flat_map (item_order j.flat j.seqs (order j.flat j.seqs) n) some) ≡ []
        along q at later [] m = refl
        along q at later (item ∷ some) m =
            mine-append r (item_order j.flat j.seqs (order j.flat j.seqs) n item) (flat_map (item_order j.flat j.seqs (order j.flat j.seqs) n) some)
            ∙ (λ i. one q at later item (m item (contains-first item some)) i ++ along q at later some (λ x z. m x (contains-later item x some z)) i)

    pub region-split : (n : ℕ) → contains n j.nodes ≡ true → region j.flat j.nodes n ≡ number_among j.nodes n
    region-split n is = rw is refl

    -- the region of what stands at a split node or below begins there or below
    below-split : (c m : ℕ) → contains c j.nodes ≡ true → SubOf c m → (s : ℕ) × (contains s j.nodes ≡ true) × (c ≤ s) × (region j.flat j.nodes m ≡ number_among j.nodes s)
    below-split c m is here = (c, is, omega arith, region-split c is)
    below-split c m is (below {p} s e) = go (cases_Bool (contains m j.nodes)) (below-split c p is s) (sub-later j.flat tree c m (below s e))
      where
        go : (contains m j.nodes ≡ true) ⊎ (contains m j.nodes ≡ false) → ((s : ℕ) × (contains s j.nodes ≡ true) × (c ≤ s) × (region j.flat j.nodes p ≡ number_among j.nodes s)) → c ≤ m
            → (s : ℕ) × (contains s j.nodes ≡ true) × (c ≤ s) × (region j.flat j.nodes m ≡ number_among j.nodes s)
        go (inl a) upper l = (m, a, l, region-split m a)
        go (inr a) upper l = (upper.0, upper.1, upper.2, region-parent j.flat tree j.nodes m p e a ∙ upper.3)

    -- the region of a node is the first, or begins there or above
    pub above-split : (fuel n : ℕ) → n < fuel → (region j.flat j.nodes n ≡ 0) ⊎ ((s : ℕ) × (contains s j.nodes ≡ true) × SubOf s n × (region j.flat j.nodes n ≡ number_among j.nodes s))
    above-split zero n h = absurd (omega (arith, h))
    above-split (suc fuel) n h = go (cases_Bool (contains n j.nodes)) (parent_of j.flat n) refl (λ p l. above-split fuel p (omega (arith, h, l)))
      where
        go : (contains n j.nodes ≡ true) ⊎ (contains n j.nodes ≡ false) → (x : Option ℕ) → parent_of j.flat n ≡ x
            → ((p : ℕ) → p < n → (region j.flat j.nodes p ≡ 0) ⊎ ((s : ℕ) × (contains s j.nodes ≡ true) × SubOf s p × (region j.flat j.nodes p ≡ number_among j.nodes s)))
            → (region j.flat j.nodes n ≡ 0) ⊎ ((s : ℕ) × (contains s j.nodes ≡ true) × SubOf s n × (region j.flat j.nodes n ≡ number_among j.nodes s))
        go (inl a) x e rec = inr (n, a, here, region-split n a)
        go (inr a) None e rec = inl (ap (λ l. number_found j.nodes (find (λ m. contains m j.nodes) (n ∷ l))) (ancestors-root j.flat n e) ∙ rw a refl)
        go (inr a) (Some p) e rec = let same = region-parent j.flat tree j.nodes n p e a in let l = parent_before j.flat tree n p e in elim (rec p l) [
          | inl z ↦ inl (same ∙ z)
          | inr (s, b, c, d) ↦ inr (s, b, below c e, same ∙ d)
        ]

    one-number : (s u : ℕ) → contains s j.nodes ≡ true → contains u j.nodes ≡ true → number_among j.nodes s ≡ number_among j.nodes u → s ≡ u
    one-number s u a b e =
        let p = place 1 j.nodes s a in let q = place 1 j.nodes u b in let f = p.number in let g = q.number in
        let same : p.index ≡ q.index = omega (arith, e, f, g) in
        held (sym p.there ∙ ap (λ z. slice_get j.nodes z) same ∙ q.there)

    -- a split node's subtree has no node of the region in which its parent is
    pub split-away : (r n c : ℕ) → parent_of j.flat c ≡ Some n → contains c j.nodes ≡ true → region j.flat j.nodes n ≡ r → Away r c
    split-away r n c e is within m s same =
        let b = below-split c m is s in let l = parent_before j.flat tree c n e in
        let p = place 1 j.nodes b.0 b.1 in let f = p.number in
        elim (above-split (suc n) n (omega arith)) [
          | inl z ↦ (let z2 : number_among j.nodes b.0 ≡ 0 = sym b.3 ∙ same ∙ sym within ∙ z in absurd (omega (arith, z2, f)))
          | inr (u, a, sub, d) ↦ (let le = sub-later j.flat tree u n sub in let v = one-number b.0 u b.1 a (sym b.3 ∙ same ∙ sym within ∙ d) in let ge = b.2 in absurd (omega (arith, v, le, ge, l)))
        ]

    -- the visits of a node of the region give it what its own items give
    pub inside-order : (r fuel n v : ℕ) → n < length j.flat → length j.flat ≤ fuel + n → region j.flat j.nodes n ≡ r → mine r (order j.flat j.seqs n v) ≡ own_order j n v
    inside-order r zero n v h k within = absurd (omega (arith, h, k))
    inside-order r (suc fuel) n v h k within = let q = (grown j task).nodes n h in
        ap (λ l. mine r l) (order-step j.flat j.seqs tree n v h)
        ∙ along-own r n q.0 q.1 within (λ occ c w e. inner (λ d u l inside f. inside-order r fuel d u inside (omega (arith, k, l)) f) occ c w e (cases_Bool (contains c j.nodes))) (segment (v - 1) (sequence_at j.flat j.seqs n)) (λ item m. segment-in (v - 1) (sequence_at j.flat j.seqs n) item m)
        ∙ sym (own-order-step tree n v h)
      where
        inner : ((d u : ℕ) → n < d → d < length j.flat → region j.flat j.nodes d ≡ r → mine r (order j.flat j.seqs d u) ≡ own_order j d u)
            → (occ c w : ℕ) → child_at j.flat n occ ≡ Some c → (contains c j.nodes ≡ true) ⊎ (contains c j.nodes ≡ false) → mine r (order j.flat j.seqs c w) ≡ own_visit j (own_order j) (Some c) w
        inner deeper occ c w e (inl is) = let f = child-facts j.flat tree n occ c e in
            away-order r (length j.flat) c w f.inside (omega arith) (split-away r n c f.parent is within)
            ∙ sym (ap (λ (b : Bool). if b then [] else own_order j c w) is)
        inner deeper occ c w e (inr not) = let f = child-facts j.flat tree n occ c e in
            deeper c w f.later f.inside (region-parent j.flat tree j.nodes c n f.parent not ∙ within)
            ∙ sym (ap (λ (b : Bool). if b then [] else own_order j c w) not)

    -- how many visits a node has: its sequence ends with the last one's Leave
    pub record Visited (n : ℕ) (q : FlatRule) : Type 0 where
      pub row : List VisitClass
      pub at_row : slice_get j.visits q.left.0 ≡ Some row
      pub ending : EndsInLeave (sequence_at j.flat j.seqs n)
      pub count : leaves (sequence_at j.flat j.seqs n) ≡ length row

    pub visited : (n : ℕ) (q : FlatRule) → HasRule j.rules j.flat n q → Visited n q
    visited n q at =
        let sound = sound-at j.symbols j.rules j.shapes j.root j.flat task.formed (grown j task) task.root_bare j.visits j.seqs task.sound n q at in
        let seq = sequence_at j.flat j.seqs n in
        let end = at-end j.symbols j.visits q seq sound 5 in
        let last = at-place j.symbols j.visits q seq sound end.0 [] (Leave (length end.1)) 5 end.3 in
        record {
          row = end.1;
          at_row = end.2;
          ending = subst EndsInLeave (sym end.3) (ends end.0 (length end.1));
          count = ap leaves end.3 ∙ (let a = last.0 in let b = leaves-end end.0 (length end.1) in omega (arith, a, b));
        }

    abbrev item-at : ℕ → PlanItem → List Instance
    item-at n item = item_order j.flat j.seqs (order j.flat j.seqs) n item

    ranged : (n : ℕ) → n < length j.flat → (k u : ℕ) → flat_map (order j.flat j.seqs n) (range_with_len (suc u) k) ≡ joined (item-at n) (λ w. refl) (sequence_at j.flat j.seqs n) u k
    ranged n h zero u = refl
    ranged n h (suc k) u =
        let e : suc u - 1 ≡ u = omega arith in
        let first = order-step j.flat j.seqs tree n (suc u) h ∙ ap (λ z. flat_map (item-at n) (segment z (sequence_at j.flat j.seqs n))) e in
        let next : suc u + 1 ≡ suc (suc u) = omega arith in
        let rest = ap (λ z. flat_map (order j.flat j.seqs n) (range_with_len z k)) next ∙ ranged n h k (suc u) in λ i. first i ++ rest i

    -- all visits of a node, one behind the other, go along its whole sequence
    pub all-visits : (n : ℕ) (q : FlatRule) → HasRule j.rules j.flat n q → n < length j.flat
        → flat_map (order j.flat j.seqs n) (range_with_len 1 (length (unwrap_or (slice_get j.visits q.left.0) []))) ≡ flat_map (item-at n) (sequence_at j.flat j.seqs n)
    all-visits n q at h = let v = visited n q at in
        ap (λ o. flat_map (order j.flat j.seqs n) (range_with_len 1 (length (unwrap_or o [])))) v.at_row
        ∙ ranged n h (length v.row) 0 ∙ whole (item-at n) (λ w. refl) (sequence_at j.flat j.seqs n) (length v.row) v.count v.ending

    -- what all visits of the region's root give to it
    pub root-walk : (r n : ℕ) (q : FlatRule) → HasRule j.rules j.flat n q → n < length j.flat → region j.flat j.nodes n ≡ r
        → mine r (flat_map (item-at n) (sequence_at j.flat j.seqs n)) ≡ flat_map (own_item j (own_order j) n) (sequence_at j.flat j.seqs n)
    root-walk r n q at h within = along-own r n q at within (λ occ c w e. inner occ c w e (cases_Bool (contains c j.nodes))) (sequence_at j.flat j.seqs n) (λ item m. m)
      where
        inner : (occ c w : ℕ) → child_at j.flat n occ ≡ Some c → (contains c j.nodes ≡ true) ⊎ (contains c j.nodes ≡ false) → mine r (order j.flat j.seqs c w) ≡ own_visit j (own_order j) (Some c) w
        inner occ c w e (inl is) = let f = child-facts j.flat tree n occ c e in
            away-order r (length j.flat) c w f.inside (omega arith) (split-away r n c f.parent is within)
            ∙ sym (ap (λ (b : Bool). if b then [] else own_order j c w) is)
        inner occ c w e (inr not) = let f = child-facts j.flat tree n occ c e in
            inside-order r (length j.flat) c w f.inside (omega arith) (region-parent j.flat tree j.nodes c n f.parent not ∙ within)
            ∙ sym (ap (λ (b : Bool). if b then [] else own_order j c w) not)

    no-split-root : contains 0 j.nodes ≡ true → ⊥
    no-split-root is = let p = place 1 j.nodes 0 is in
        let h = All-contains (λ n. (0 < n) × (n < length j.flat)) j.nodes 0 task.nodes_inside (contains-slice_get j.nodes p.index 0 p.there) in
        let l = h.0 in absurd (omega (arith, l))

    pub region-of-root : region j.flat j.nodes 0 ≡ 0
    region-of-root = elim (cases_Bool (contains 0 j.nodes)) [
      | inl is ↦ absurd (no-split-root is)
      | inr not ↦ ap (λ l. number_found j.nodes (find (λ m. contains m j.nodes) (0 ∷ l))) (ancestors-root j.flat 0 tree.root_first) ∙ rw not refl
    ]

    -- the list of the root's region is its walk
    pub region-zero : own (machine j) 0 (items j) ≡ walk j 0
    region-zero = let s = (grown j task).root_node in
        ap (λ (z : SymId). mine 0 (flat_map (order j.flat j.seqs 0) (range_with_len 1 (length (unwrap_or (slice_get j.visits z.0) []))))) (sym s.2)
        ∙ ap (λ l. mine 0 l) (all-visits 0 s.0 s.1 tree.has_root)
        ∙ root-walk 0 0 s.0 s.1 tree.has_root region-of-root

    abbrev seq-of : ℕ → List PlanItem
    seq-of n = sequence_at j.flat j.seqs n

    -- what a region takes of all visits of a node
    abbrev taken : ℕ → ℕ → List (Item Instance)
    taken r n = mine r (flat_map (item-at n) (seq-of n))

    lonely : (c : ℕ) → c < length j.flat → parent_of j.flat c ≡ None → c ≡ 0
    lonely zero h e = refl
    lonely (suc n) h e =
        let next : n + 1 ≡ suc n = omega arith in
        let w = tree.in_preorder n (omega (arith, h)) in
        let f : IsTrue (continues j.flat n None) = subst (λ (o : Option ℕ). IsTrue (continues j.flat n o)) (ap (λ z. parent_of j.flat z) next ∙ e) w in absurd (cc)

    sub-sub : (a b d : ℕ) → SubOf a b → SubOf b d → SubOf a d
    sub-sub a b d f here = f
    sub-sub a b d f (below {p} g e) = below (sub-sub a b p f g) e

    -- From the root s of a region up to node 0: all visits of a node above give the region what all visits of the child towards s give.
    module _ (r s : ℕ) (split : contains s j.nodes ≡ true) (number : number_among j.nodes s ≡ r) where
      above-zero : r ≡ 0 → ⊥
      above-zero z = let p = place 1 j.nodes s split in let f = p.number in absurd (omega (arith, number, f, z))

      in-region : (m : ℕ) → region j.flat j.nodes m ≡ r → SubOf s m
      in-region m within = elim (above-split (suc m) m (omega arith)) [
        | inl z ↦ absurd (above-zero (sym within ∙ z))
        | inr (u, a, sub, d) ↦ subst (λ z. SubOf z m) (one-number u s a split (sym d ∙ within ∙ sym number)) sub
      ]

      not-above : (p c : ℕ) → parent_of j.flat c ≡ Some p → SubOf c s → region j.flat j.nodes p ≡ r → ⊥
      not-above p c e sub within =
          let a = sub-later j.flat tree s p (in-region p within) in let b = sub-later j.flat tree c s sub in let l = parent_before j.flat tree c p e in absurd (omega (arith, a, b, l))

      other-away : (p c b : ℕ) → parent_of j.flat c ≡ Some p → parent_of j.flat b ≡ Some p → SubOf c s → (c ≡ b → ⊥) → Away r b
      other-away p c b e f sub other m lower within = other (siblings j.flat tree p c b m e f (sub-sub c s m sub (in-region m within)) lower)

      module _ (p c k : ℕ) (q : FlatRule) (at : HasRule j.rules j.flat p q) (child : child_at j.flat p k ≡ Some c) (sub : SubOf c s) where
        sound : IsSoundSequence j.symbols j.visits q (seq-of p)
        sound = sound-at j.symbols j.rules j.shapes j.root j.flat task.formed (grown j task) task.root_bare j.visits j.seqs task.sound p q at

        -- what other items than visits of the child give
        other-item : (item : PlanItem) → Contains (seq-of p) item → is_visit_of k item ≡ false → mine r (item-at p item) ≡ []
        other-item (Eval o) m differs = mine-else r (inst p o) (λ e. not-above p c (child-facts j.flat tree p k c child).parent sub (sym (home-at p q at o m) ∙ e))
        other-item (Leave w) m differs = refl
        other-item (Visit occ w) m differs = go (child_at j.flat p occ) refl
          where
            go : (x : Option ℕ) → child_at j.flat p occ ≡ x → mine r (visit_order j.flat j.seqs (order j.flat j.seqs) x w) ≡ []
            go None e = refl
            go (Some b) e = let f = child-facts j.flat tree p occ b e in let g = child-facts j.flat tree p k c child in
                away-order r (length j.flat) b w f.inside (omega arith) (other-away p c b g.parent f.parent sub (λ same.
                let is : eqb occ k ≡ true = eq-eqb occ k (sym f.placed ∙ ap (λ z. place_of j.flat z) (sym same) ∙ g.placed) in absurd (cc)))

        abbrev from : ℕ → ℕ → List (Item Instance)
        from start count = mine r (flat_map (order j.flat j.seqs c) (range_with_len start count))

        abbrev Along : List PlanItem → List PlanItem → Type 0
        Along done rest = mine r (flat_map (item-at p) rest) ≡ from (suc (visits_made done k)) (visits_made rest k)

        other-visit : (done rest : List PlanItem) (item : PlanItem) → seq-of p ≡ done ++ item ∷ rest → is_visit_of k item ≡ false → Along (done ++ item ∷ []) rest → Along done (item ∷ rest)
        other-visit done rest item e differs later =
            let there : Contains (seq-of p) item = subst (λ l. Contains l item) (sym e) (split-among done rest item) in
            let count : visits_made (item ∷ rest) k ≡ visits_made rest k = let f = visits-first item rest k false differs in omega (arith, f) in
            mine-append r (item-at p item) (flat_map (item-at p) rest)
            ∙ ap (λ l. l ++ mine r (flat_map (item-at p) rest)) (other-item item there differs)
            ∙ later ∙ ap (λ z. from (suc z) (visits_made rest k)) (visits-no done item k differs) ∙ ap (λ z. from (suc (visits_made done k)) z) (sym count)

        its-visit : (done rest : List PlanItem) (occ v : ℕ) → seq-of p ≡ done ++ Visit occ v ∷ rest → eqb occ k ≡ true → Along (done ++ Visit occ v ∷ []) rest → Along done (Visit occ v ∷ rest)
        its-visit done rest occ v e agrees later =
            let same : occ ≡ k = eqb-true occ k agrees in
            let next : v ≡ suc (visits_made done k) = at-place j.symbols j.visits q (seq-of p) sound done rest (Visit occ v) 2 e ∙ ap (λ z. suc (visits_made done z)) same in
            let count : visits_made (Visit occ v ∷ rest) k ≡ suc (visits_made rest k) = let f = visits-first (Visit occ v) rest k true agrees in omega (arith, f) in
            let more : suc (visits_made (done ++ Visit occ v ∷ []) k) ≡ suc (visits_made done k) + 1 = let f = visits-yes done (Visit occ v) k agrees in omega (arith, f) in
            let visit : item-at p (Visit occ v) ≡ order j.flat j.seqs c (suc (visits_made done k)) =
            ap (λ (x : Option ℕ). visit_order j.flat j.seqs (order j.flat j.seqs) x v) (ap (λ z. child_at j.flat p z) same ∙ child) ∙ ap (λ z. order j.flat j.seqs c z) next in
            mine-append r (item-at p (Visit occ v)) (flat_map (item-at p) rest)
            ∙ ap (λ l. mine r l ++ mine r (flat_map (item-at p) rest)) visit
            ∙ ap (λ l. mine r (order j.flat j.seqs c (suc (visits_made done k))) ++ l) (later ∙ ap (λ z. from z (visits_made rest k)) more)
            ∙ sym (mine-append r (order j.flat j.seqs c (suc (visits_made done k))) (flat_map (order j.flat j.seqs c) (range_with_len (suc (visits_made done k) + 1) (visits_made rest k))))
            ∙ ap (λ z. from (suc (visits_made done k)) z) (sym count)

        along-up : (done rest : List PlanItem) → seq-of p ≡ done ++ rest → Along done rest
        along-up done [] e = refl
        along-up done (item ∷ rest) e = go item e (along-up (done ++ item ∷ []) rest (e ∙ sym (append_assoc done (item ∷ []) rest)))
          where
            go : (item : PlanItem) → seq-of p ≡ done ++ item ∷ rest → Along (done ++ item ∷ []) rest → Along done (item ∷ rest)
            go (Eval o) e later = other-visit done rest (Eval o) e refl later
            go (Leave w) e later = other-visit done rest (Leave w) e refl later
            go (Visit occ v) e later = elim (cases_Bool (eqb occ k)) [ inl agrees ↦ its-visit done rest occ v e agrees later | inr differs ↦ other-visit done rest (Visit occ v) e differs later ]

        step-up : taken r p ≡ taken r c
        step-up =
            let f = child-facts j.flat tree p k c child in
            let d = (grown j task).nodes c f.inside in
            let v = visited c d.0 d.1 in
            let symbol = child-symbol j.symbols j.rules j.shapes j.root j.flat task.formed (grown j task) task.root_bare p k c q d.0 at d.1 child in
            let rule = All-contains (IsRule j.symbols) j.rules d.0 task.formed.each_rule (contains-slice_get j.rules d.1.0 d.0 d.1.2) in
            let pos : 0 < k = let o = f.occ in omega (arith, o) in
            let count = at-end j.symbols j.visits q (seq-of p) sound 2 k d.0.left v.row pos symbol rule.left_side v.at_row in
            along-up [] (seq-of p) refl
            ∙ ap (λ z. from 1 z) (count ∙ ap (λ o. length (unwrap_or o [])) (sym v.at_row))
            ∙ ap (λ l. mine r l) (all-visits c d.0 d.1 f.inside)

      climb : (fuel c : ℕ) → c < fuel → c < length j.flat → SubOf c s → taken r 0 ≡ taken r c
      climb zero c h inside sub = absurd (omega (arith, h))
      climb (suc fuel) c h inside sub = go (parent_of j.flat c) refl (λ p l. climb fuel p (omega (arith, h, l)) (omega (arith, inside, l)))
        where
          go : (x : Option ℕ) → parent_of j.flat c ≡ x → ((p : ℕ) → p < c → SubOf p s → taken r 0 ≡ taken r p) → taken r 0 ≡ taken r c
          go None e rec = ap (λ z. taken r z) (sym (lonely c inside e))
          go (Some p) e rec =
              let l = parent_before j.flat tree c p e in
              let k = parent-child j.flat tree c p inside e in
              let q = (grown j task).nodes p (omega (arith, l, inside)) in
              rec p l (sub-child j.flat tree p c s e sub) ∙ step-up p c (suc k.0) q.0 q.1 k.1 sub

    all-taken : (r : ℕ) → own (machine j) r (items j) ≡ taken r 0
    all-taken r = let s = (grown j task).root_node in
        ap (λ (z : SymId). mine r (flat_map (order j.flat j.seqs 0) (range_with_len 1 (length (unwrap_or (slice_get j.visits z.0) []))))) (sym s.2)
        ∙ ap (λ l. mine r l) (all-visits 0 s.0 s.1 tree.has_root)

    -- the list of a region is the walk of its own nodes
    pub region-walks : (r : ℕ) → r ≤ length j.nodes → own (machine j) r (items j) ≡ walk j r
    region-walks zero h = region-zero
    region-walks (suc k) h = go (slice_get j.nodes k) refl
      where
        go : (x : Option ℕ) → slice_get j.nodes k ≡ x → own (machine j) (suc k) (items j) ≡ walk j (suc k)
        go None e = absurd (none-some _ (sym e ∙ slice_get-get_or j.nodes k 0 (omega (arith, h))))
        go (Some s) e =
            let among = contains-slice_get j.nodes k s e in
            let inside = All-contains (λ n. (0 < n) × (n < length j.flat)) j.nodes s task.nodes_inside among in
            let split : contains s j.nodes ≡ true = contains-true j.nodes k s e in
            let p = place 1 j.nodes s split in
            let number : number_among j.nodes s ≡ suc k = let a = p.number in let b = one-index j.nodes (AllPairs-from_increasing j.nodes task.nodes_ascend) p.index k s p.there e in omega (arith, a, b) in
            let q = (grown j task).nodes s inside.1 in
            all-taken (suc k) ∙ climb (suc k) s split number (suc s) s (omega arith) inside.1 here
            ∙ root-walk (suc k) s q.0 q.1 inside.1 (region-split s split ∙ number)
            ∙ ap (λ (o : Option ℕ). let n = unwrap_or o 0 in flat_map (own_item j (own_order j) n) (sequence_at j.flat j.seqs n)) (sym e)
