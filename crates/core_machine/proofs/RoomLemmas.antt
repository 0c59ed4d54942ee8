-- The space of rooms: the text cells of a region's computations are enough.
use Rattle.std.specs.Prelude.{slice_get, sum_by, map, min, if◌then◌else◌, ◌==◌}
use Rattle.std.specs.List.{range_with_len}
use Rattle.std.proofs.Common.{◌≡◌, ◌≤◌, ◌<◌, ◌+◌, ◌-◌, ℕ, zero, suc, List, [], ◌∷◌, ◌++◌, length, Bool, true, false, Option, Some, None, refl, arith, ap, sym, ◌∙◌, get_or}
use Rattle.std.proofs.lemmas.List.{length-map, get_or-map}
use Rattle.std.proofs.lemmas.Option.{slice_get_within, get_or_from_slice_get}
use Rattle.lido_base.specs.Tree.{rule_at}
use Rattle.flat_grammar.proofs.Lists.{held}
use Rattle.core_machine.proofs.Jobs.{grown}
use Rattle.std.proofs.lemmas.List.Sums.{sum_by-append, sum_by-cons}
use Rattle.tree_store.specs.Regions.{region}
use Rattle.flat_grammar.specs.declared.flat.FlatRule.{FlatRule}
use Rattle.flat_grammar.specs.declared.flat.FlatComp.{FlatComp}
use Rattle.flat_grammar.specs.Fitting.{cells, most_text_cells}
use Rattle.flat_grammar.specs.Rules.{HasRule}
use Rattle.core_machine.specs.Core.{Task, IsTask, Computation, rule_of, instances_in_order}
use Rattle.core_machine.specs.Runs.{cost_in, cells_at, cells_in}
use Rattle.core_machine.proofs.Counts.{sum-map}
use Rattle.core_machine.proofs.Tasks.{of-rule}
use Rattle.core_machine.proofs.CursorReads.{range-push}
use Rattle.core_machine.proofs.LimitLemmas.{by-nodes, as-computation, computations-of, sum-computations}

none-adds : {A : Type 0} (xs : List A) → sum_by (λ (x : A). 0) xs ≡ 0
none-adds [] = refl
none-adds (x ∷ xs) = let e = none-adds xs in let d = sum_by-cons (λ z. 0) x xs in omega (arith, e, d)

module _ (j : Task) where
  abbrev within : ℕ → ℕ → ℕ
  within r n = if region j.flat j.nodes n == r then cells_at j n else 0

  -- the text cells in a region of the first nodes
  abbrev pub cells_before : ℕ → ℕ → ℕ
  cells_before r n = sum_by (within r) (range_with_len 0 n)

  pub rule-cells : (n : ℕ) (r : FlatRule) → HasRule j.rules j.flat n r → cells_at j n ≡ sum_by (λ (c : FlatComp). cells c.value) r.comps
  rule-cells n r at = ap (λ (o : Option FlatRule). elim o [ None ↦ 0 | Some r ↦ sum_by (λ (c : FlatComp). cells c.value) r.comps ]) (of-rule j n r at)

  more : (r n : ℕ) (b : Bool) → (region j.flat j.nodes n == r) ≡ b → cells_before r (n + 1) ≡ cells_before r n + (if b then cells_at j n else 0)
  more r n b e =
      let last : 0 + n ≡ n = omega arith in
      let list = range-push 0 n ∙ ap (λ z. range_with_len 0 n ++ z ∷ []) last in
      let a = ap (sum_by (within r)) list ∙ sum_by-append (within r) (range_with_len 0 n) (n ∷ []) in
      let d = sum_by-cons (within r) n [] in
      let f = ap (λ (b : Bool). if b then cells_at j n else 0) e in
      omega (arith, a, d, f)

  pub cells-more : (r n : ℕ) → (region j.flat j.nodes n == r) ≡ true → cells_before r (n + 1) ≡ cells_before r n + cells_at j n
  cells-more r n e = more r n true e

  pub cells-same : (r n : ℕ) → (region j.flat j.nodes n == r) ≡ false → cells_before r (n + 1) ≡ cells_before r n
  cells-same r n e = let a = more r n false e in omega (arith, a)

  pub cells-next : (r n : ℕ) → cells_before r (n + 1) ≡ cells_before r n + (if region j.flat j.nodes n == r then cells_at j n else 0)
  cells-next r n = more r n (region j.flat j.nodes n == r) refl

  all-more : (n : ℕ) → sum_by (cells_at j) (range_with_len 0 (n + 1)) ≡ sum_by (cells_at j) (range_with_len 0 n) + cells_at j n
  all-more n =
      let last : 0 + n ≡ n = omega arith in
      let list = range-push 0 n ∙ ap (λ z. range_with_len 0 n ++ z ∷ []) last in
      let a = ap (sum_by (cells_at j)) list ∙ sum_by-append (cells_at j) (range_with_len 0 n) (n ∷ []) in
      let d = sum_by-cons (cells_at j) n [] in
      omega (arith, a, d)

  all-grow : (k n : ℕ) → sum_by (cells_at j) (range_with_len 0 n) ≤ sum_by (cells_at j) (range_with_len 0 (n + k))
  all-grow zero n = let e : n + 0 ≡ n = omega arith in let f = ap (λ m. sum_by (cells_at j) (range_with_len 0 m)) e in omega (arith, f)
  all-grow (suc k) n =
      let rest = all-grow k n in
      let e : n + k + 1 ≡ n + suc k = omega arith in
      let f = ap (λ m. sum_by (cells_at j) (range_with_len 0 m)) e in
      let g = all-more (n + k) in
      omega (arith, rest, f, g)

  before-all : (r : ℕ) (xs : List ℕ) → sum_by (within r) xs ≤ sum_by (cells_at j) xs
  before-all r [] = omega arith
  before-all r (n ∷ xs) =
      let rest = before-all r xs in
      let a = sum_by-cons (within r) n xs in let b = sum_by-cons (cells_at j) n xs in
      let c = go (region j.flat j.nodes n == r) in omega (arith, rest, a, b, c)
    where
      go : (b : Bool) → (if b then cells_at j n else 0) ≤ cells_at j n
      go true = omega arith
      go false = omega arith

  module _ (task : IsTask j) where
    few-all : sum_by (cells_at j) (range_with_len 0 (length j.flat)) ≤ most_text_cells
    few-all =
        let e = by-nodes j task (λ (r : FlatRule). sum_by (λ (c : FlatComp). cells c.value) r.comps) in
        let f = task.limits.1 in
        omega (arith, e, f)

    pub few-with : (r n : ℕ) → n < length j.flat → cells_before r n + cells_at j n ≤ most_text_cells
    few-with r n h =
        let a = before-all r (range_with_len 0 n) in
        let b = all-more n in
        let c = all-grow (length j.flat - (n + 1)) (n + 1) in
        let e : n + 1 + (length j.flat - (n + 1)) ≡ length j.flat = omega (arith, h) in
        let f = ap (λ m. sum_by (cells_at j) (range_with_len 0 m)) e in
        let g = few-all in
        omega (arith, a, b, c, f, g)

    abbrev cost-of : ℕ → Option Computation → ℕ
    cost-of r o = elim o [ None ↦ 0 | Some c ↦ (if region j.flat j.nodes c.0 == r then cells c.2.value else 0) ]

    pub few-next : (r n : ℕ) → n < length j.flat → cells_before r n + (if region j.flat j.nodes n == r then cells_at j n else 0) ≤ most_text_cells
    few-next r n h = go (region j.flat j.nodes n == r)
      where
        go : (b : Bool) → cells_before r n + (if b then cells_at j n else 0) ≤ most_text_cells
        go true = few-with r n h
        go false = let a = few-with r n h in omega (arith, a)

    -- the number of a rule's cells, where none counts as more than it has
    pub known-cells : (known : List ℕ) → known ≡ map (λ (r : FlatRule). min (sum_by (λ (c : FlatComp). cells c.value) r.comps) 16777217) j.rules → (n i : ℕ) → n < length j.flat → rule_at j.flat n ≡ Some i
        → (i < length known) × (get_or known i 0 ≡ cells_at j n) × (cells_at j n ≤ most_text_cells)
    known-cells known is n i h e =
        let q = (grown j task).nodes n h in
        let same : q.1.0 ≡ i = held (sym q.1.1 ∙ e) in
        let there : slice_get j.rules i ≡ Some q.0 = ap (slice_get j.rules) (sym same) ∙ q.1.2 in
        let w = slice_get_within j.rules i q.0 there in
        let count = ap length is ∙ length-map j.rules (λ (r : FlatRule). min (sum_by (λ (c : FlatComp). cells c.value) r.comps) 16777217) in
        let read : get_or known i 0 ≡ min (sum_by (λ (c : FlatComp). cells c.value) q.0.comps) 16777217 =
        ap (λ l. get_or l i 0) is ∙ get_or-map (λ (r : FlatRule). min (sum_by (λ (c : FlatComp). cells c.value) r.comps) 16777217) j.rules i q.0 0 w
        ∙ ap (λ (r : FlatRule). min (sum_by (λ (c : FlatComp). cells c.value) r.comps) 16777217) (get_or_from_slice_get j.rules i q.0 q.0 there) in
        let cost = rule-cells n q.0 q.1 in
        let few = few-with 0 n h in
        (omega (arith, count, w), omega (arith, read, cost, few), omega (arith, few))

    -- a region's instances need no more than its computations have
    pub enough : (r : ℕ) → sum_by (cost_in j r) (instances_in_order j) ≤ cells_in j r
    enough r =
        let a = sum-computations j task (cost-of r) in
        let b = ap (λ (f : ℕ → ℕ). sum_by f (range_with_len 0 (length j.flat))) (λ x n. at-node n x) in
        omega (arith, a, b)
      where
        of-rule-at : (n : ℕ) (o : Option FlatRule) → sum_by (cost-of r) (elim o [ None ↦ [] | Some q ↦ map (as-computation j task n q) q.comps ])
            ≡ (if region j.flat j.nodes n == r then elim o [ None ↦ 0 | Some q ↦ sum_by (λ (c : FlatComp). cells c.value) q.comps ] else 0)
        of-rule-at n None = go (region j.flat j.nodes n == r)
          where
            go : (b : Bool) → ◌≡◌ {A = ℕ} 0 (if b then 0 else 0)
            go true = refl
            go false = refl
        of-rule-at n (Some q) = sum-map (cost-of r) (as-computation j task n q) q.comps ∙ go (region j.flat j.nodes n == r)
          where
            go : (b : Bool) → sum_by (λ (c : FlatComp). if b then cells c.value else 0) q.comps ≡ (if b then sum_by (λ (c : FlatComp). cells c.value) q.comps else 0)
            go true = refl
            go false = none-adds q.comps

        at-node : (n : ℕ) → sum_by (cost-of r) (computations-of j task n) ≡ within r n
        at-node n = of-rule-at n (rule_of j n)
