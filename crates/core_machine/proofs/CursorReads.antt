-- What a cursor reads of its job: sequences, regions and levels.
use Rattle.std.specs.Prelude.{slice_get, filter, fold, max, map, if◌then◌else◌, unwrap_or, ◌==◌, is_some, MatchOption}
use Rattle.std.specs.List.{range_with_len}
use Rattle.std.proofs.Common.{◌≡◌, ◌≤◌, ◌<◌, ◌+◌, ◌-◌, ℕ, zero, suc, List, [], ◌∷◌, ◌++◌, length, Bool, true, false, Option, Some, None, refl, arith, ap, sym, ◌∙◌, get_or, inl, inr, eqb-true, eq-eqb}
use Rattle.std.proofs.lemmas.Option.{slice_get-get_or, slice_get_within}
use Rattle.std.proofs.lemmas.Bool.{cases_Bool}
use Rattle.std.proofs.lemmas.List.{length-map, map-append}
use Rattle.std.proofs.lemmas.List.Elements.{filter-append}
use Rattle.std.proofs.lemmas.List.Sums.{fold-append}
use Rattle.std.proofs.lemmas.List.FromFn.{length-map-range_with_len, get_or-map-range_with_len}
use Rattle.lido_base.specs.declared.ids.NodeId.{NodeId}
use Rattle.lido_base.specs.Tree.{IsTree, contains, parent_of, ancestors, rule_at}
use Rattle.lido_base.proofs.TreeLemmas.{ancestors-child, ancestors-root, parent_before}
use Rattle.tree_store.specs.Regions.{region, regions, number_among}
use Rattle.flat_grammar.specs.declared.plan.PlanItem.{PlanItem}
use Rattle.flat_grammar.specs.WholeOrder.{segment, sequence_at}
use Rattle.flat_grammar.proofs.Lists.{held}
use Rattle.core_machine.specs.Core.{Task, IsTask}
use Rattle.core_machine.specs.Walks.{root_of}
use Rattle.core_machine.specs.Cursors.{up_to_split, level}
use Rattle.core_machine.proofs.Jobs.{grown}
use Rattle.core_machine.proofs.KeyLemmas.{place}
use Rattle.core_machine.proofs.RegionWalks.{tree, region-split, contains-true}
use Rattle.core_machine.proofs.FinalLemmas.{region-few}
use Rattle.core_machine.proofs.CursorPaths.{one-level}

pub node-at : (ns : List NodeId) (k : ℕ) (d : NodeId) → k < length ns → slice_get (map (λ (n : NodeId). n.0) ns) k ≡ Some (get_or ns k d).0
node-at [] k d h = absurd (omega (arith, h))
node-at (n ∷ ns) zero d h = refl
node-at (n ∷ ns) (suc k) d h = node-at ns k d (omega (arith, h))

pub none-holds : {A : Type 0} (o : Option A) (P : Type 0) (Q : A → Type 0) → MatchOption o P Q → is_some o ≡ false → P
none-holds None P Q m e = m
none-holds (Some x) P Q m e = absurd (cc)

pub some-holds : {A : Type 0} (o : Option A) (P : Type 0) (Q : A → Type 0) → MatchOption o P Q → is_some o ≡ true → (x : A) × Q x
some-holds None P Q m e = absurd (cc)
some-holds (Some x) P Q m e = (x, m)

pub range-push : (a n : ℕ) → range_with_len a (n + 1) ≡ range_with_len a n ++ (a + n) ∷ []
range-push a n = let e : n + 1 ≡ suc n = omega arith in ap (range_with_len a) e ∙ go a n
  where
    go : (a n : ℕ) → range_with_len a (suc n) ≡ range_with_len a n ++ (a + n) ∷ []
    go a zero = let e : a ≡ a + 0 = omega arith in ap (λ z. z ∷ []) e
    go a (suc n) = let e : a + 1 + n ≡ a + suc n = omega arith in ap (λ l. a ∷ l) (go (a + 1) n) ∙ ap (λ z. a ∷ (range_with_len (a + 1) n ++ z ∷ [])) e

-- a visit begins behind so many Leaves
pub starts-end : (seq : List PlanItem) (v : ℕ) → segment v [] ≡ []
starts-end seq zero = refl
starts-end seq (suc v) = refl

module _ (j : Task) where
  pub region-read : (xs : List ℕ) (n : ℕ) → xs ≡ regions j.flat j.nodes → n < length j.flat → get_or xs n 0 ≡ region j.flat j.nodes n
  region-read xs n e h = ap (λ l. get_or l n 0) e ∙ get_or-map-range_with_len (region j.flat j.nodes) 0 (length j.flat) n n 0 h (omega arith)

  pub region-count : (xs : List ℕ) → xs ≡ regions j.flat j.nodes → length xs ≡ length j.flat
  region-count xs e = ap length e ∙ length-map-range_with_len (region j.flat j.nodes) 0 (length j.flat)

  -- the greatest level so far
  abbrev pub most_of : ℕ → ℕ → ℕ
  most_of r count = fold max 0 (map (level j) (filter (λ n. region j.flat j.nodes n == r) (range_with_len 0 count)))

  more : (r n : ℕ) (b : Bool) → (region j.flat j.nodes n == r) ≡ b → most_of r (n + 1) ≡ (if b then max (most_of r n) (level j n) else most_of r n)
  more r n b e =
      let p : ℕ → Bool = λ m. region j.flat j.nodes m == r in
      let last : 0 + n ≡ n = omega arith in
      let list = ap (filter p) (range-push 0 n ∙ ap (λ z. range_with_len 0 n ++ z ∷ []) last) ∙ filter-append p (range_with_len 0 n) (n ∷ []) in
      ap (λ l. fold max 0 (map (level j) l)) list ∙ go b e
    where
      go : (b : Bool) → (region j.flat j.nodes n == r) ≡ b
          → fold max 0 (map (level j) (filter (λ m. region j.flat j.nodes m == r) (range_with_len 0 n) ++ filter (λ m. region j.flat j.nodes m == r) (n ∷ []))) ≡ (if b then max (most_of r n) (level j n) else most_of r n)
      go true h = rw h (ap (fold max 0) (map-append (level j) (filter (λ m. region j.flat j.nodes m == r) (range_with_len 0 n)) (n ∷ [])) ∙ fold-append max 0 (map (level j) (filter (λ m. region j.flat j.nodes m == r) (range_with_len 0 n))) (level j n ∷ []))
      go false h = rw h (ap (fold max 0) (map-append (level j) (filter (λ m. region j.flat j.nodes m == r) (range_with_len 0 n)) []) ∙ fold-append max 0 (map (level j) (filter (λ m. region j.flat j.nodes m == r) (range_with_len 0 n))) [])

  pub most-more : (r n : ℕ) → (region j.flat j.nodes n == r) ≡ true → most_of r (n + 1) ≡ max (most_of r n) (level j n)
  most-more r n e = more r n true e

  pub most-same : (r n : ℕ) → (region j.flat j.nodes n == r) ≡ false → most_of r (n + 1) ≡ most_of r n
  most-same r n e = more r n false e

  -- the greatest of the levels with one node more
  pub most-step : (r n old new : ℕ) → old ≡ most_of r n → (region j.flat j.nodes n ≡ r → new ≡ max old (level j n)) → ((region j.flat j.nodes n ≡ r → ⊥) → new ≡ old) → new ≡ most_of r (n + 1)
  most-step r n old new e own other = elim (cases_Bool (region j.flat j.nodes n == r)) [
    | inl h ↦ own (eqb-true (region j.flat j.nodes n) r h) ∙ ap (λ z. max z (level j n)) e ∙ sym (most-more r n h)
    | inr h ↦ other (λ same. differ (eq-eqb (region j.flat j.nodes n) r same) h) ∙ e ∙ sym (most-same r n h)
  ]
    where
      differ : {b : Bool} → b ≡ true → b ≡ false → ⊥
      differ f g = cc

  pub levels-push : (n : ℕ) → map (level j) (range_with_len 0 (n + 1)) ≡ map (level j) (range_with_len 0 n) ++ level j n ∷ []
  levels-push n = let last : 0 + n ≡ n = omega arith in ap (map (level j)) (range-push 0 n ∙ ap (λ z. range_with_len 0 n ++ z ∷ []) last) ∙ map-append (level j) (range_with_len 0 n) (n ∷ [])

  pub root-there : (ns : List NodeId) (r : ℕ) (d : NodeId) → map (λ (n : NodeId). n.0) ns ≡ j.nodes → r ≤ length j.nodes → 0 < r → (get_or ns (r - 1) d).0 ≡ root_of j.nodes r
  root-there ns zero d e h pos = absurd (omega (arith, pos))
  root-there ns (suc k) d e h pos =
      let n : suc k - 1 ≡ k = omega arith in
      let l : length ns ≡ length j.nodes = sym (length-map ns (λ (n : NodeId). n.0)) ∙ ap length e in
      ap (λ z. (get_or ns z d).0) n ∙ sym (ap (λ l. unwrap_or (slice_get l k) 0) (sym e) ∙ ap (λ o. unwrap_or o 0) (node-at ns k d (omega (arith, l, h))))

  module _ (task : IsTask j) where
    t : IsTree j.flat
    t = tree j task

    pub seq-there : (n i : ℕ) → n < length j.flat → rule_at j.flat n ≡ Some i → i < length j.seqs
    seq-there n i h e =
        let q = (grown j task).nodes n h in
        let same : q.1.0 ≡ i = held (sym q.1.1 ∙ e) in
        let w = slice_get_within j.rules q.1.0 q.0 q.1.2 in let l = task.sound.0.1 in omega (arith, same, w, l)

    pub seq-is : (n i : ℕ) (xs : List (List PlanItem)) (seq d : List PlanItem) → n < length j.flat → rule_at j.flat n ≡ Some i → xs ≡ j.seqs → seq ≡ get_or xs i d → seq ≡ sequence_at j.flat j.seqs n
    seq-is n i xs seq d h e same is =
        is ∙ ap (λ l. get_or l i d) same
        ∙ sym (ap (λ o. unwrap_or (slice_get j.seqs (unwrap_or o 0)) []) e ∙ ap (λ o. unwrap_or o []) (slice_get-get_or j.seqs i d (seq-there n i h e)))

    -- the node at which the region of a node begins, where that isn't the root's
    pub split-read : (ns : List NodeId) (n r : ℕ) (d : NodeId) → map (λ (n : NodeId). n.0) ns ≡ j.nodes → r ≡ region j.flat j.nodes n → 0 < r
        → (r - 1 < length ns) × (slice_get j.nodes (r - 1) ≡ Some (get_or ns (r - 1) d).0)
    split-read ns n r d same e pos =
        let l = ap length same in let f = length-map ns (λ (n : NodeId). n.0) in let g = region-few j.flat j.nodes n in
        let h : r - 1 < length ns = omega (arith, l, e, f, g, pos) in
        (h, ap (λ l. slice_get l (r - 1)) (sym same) ∙ node-at ns (r - 1) d h)

    pub begun : (n r : ℕ) → region j.flat j.nodes n ≡ r → slice_get j.nodes (r - 1) ≡ Some n → (contains n j.nodes ≡ true) × (r ≡ number_among j.nodes n)
    begun n r e is = let split = contains-true j.nodes (r - 1) n is in (split, sym e ∙ region-split j task n split)

    pub not-begun-zero : (n : ℕ) → region j.flat j.nodes n ≡ 0 → contains n j.nodes ≡ false
    not-begun-zero n e = go (contains n j.nodes) refl
      where
        go : (b : Bool) → contains n j.nodes ≡ b → b ≡ false
        go true split = let a = region-split j task n split in let p = place 1 j.nodes n split in let b = p.number in absurd (omega (arith, a, b, e))
        go false other = refl

    pub not-begun : (n m r : ℕ) → region j.flat j.nodes n ≡ r → slice_get j.nodes (r - 1) ≡ Some m → (m ≡ n → ⊥) → contains n j.nodes ≡ false
    not-begun n m r e is other = go (contains n j.nodes) refl
      where
        go : (b : Bool) → contains n j.nodes ≡ b → b ≡ false
        go true split =
            let a = region-split j task n split in let p = place 1 j.nodes n split in let b = p.number in
            let same : r - 1 ≡ p.index = omega (arith, a, b, e) in
            absurd (other (held (sym is ∙ ap (slice_get j.nodes) same ∙ p.there)))
        go false other = refl

    pub level-root : (n : ℕ) → parent_of j.flat n ≡ None → level j n ≡ 1
    level-root n e = ap (λ l. up_to_split j (n ∷ l)) (ancestors-root j.flat n e) ∙ one-level j task n

    pub level-split : (n : ℕ) → contains n j.nodes ≡ true → level j n ≡ 1
    level-split n e = ap (λ (b : Bool). if b then 1 else suc (up_to_split j (ancestors j.flat n))) e

    pub level-child : (n p : ℕ) → parent_of j.flat n ≡ Some p → contains n j.nodes ≡ false → level j n ≡ suc (level j p)
    level-child n p e not = ap (λ l. up_to_split j (n ∷ l)) (ancestors-child j.flat t n p e) ∙ ap (λ (b : Bool). if b then 1 else suc (level j p)) not

    few : (fuel n : ℕ) → n < fuel → level j n ≤ n + 1
    few zero n h = absurd (omega (arith, h))
    few (suc fuel) n h = go (contains n j.nodes) refl (parent_of j.flat n) refl (λ p l. few fuel p (omega (arith, h, l)))
      where
        go : (b : Bool) → contains n j.nodes ≡ b → (o : Option ℕ) → parent_of j.flat n ≡ o → ((p : ℕ) → p < n → level j p ≤ p + 1) → level j n ≤ n + 1
        go true split o e rec = let a = level-split n split in omega (arith, a)
        go false not None e rec = let a = level-root n e in omega (arith, a)
        go false not (Some p) e rec = let a = level-child n p e not in let l = parent_before j.flat t n p e in let b = rec p l in omega (arith, a, b, l)

    pub level-few : (n : ℕ) → level j n ≤ n + 1
    level-few n = few (suc n) n (omega arith)

    -- the levels before a node, with that of its parent
    pub level-read : (n p : ℕ) (before : List ℕ) → before ≡ map (level j) (range_with_len 0 n) → parent_of j.flat n ≡ Some p → (p < length before) × (get_or before p 0 ≡ level j p)
    level-read n p before e up =
        let l = parent_before j.flat t n p up in (
          (let c = ap length e ∙ length-map-range_with_len (level j) 0 n in omega (arith, c, l)),
          ap (λ xs. get_or xs p 0) e ∙ get_or-map-range_with_len (level j) 0 n p p 0 l (omega arith),
        )
