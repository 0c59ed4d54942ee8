-- Labels and steps: a cycle of the graph is a cycle of the rule, and an order of the graph leaves none.
use Rattle.std.specs.Prelude.{slice_get, All, AllPairs, unwrap_or}
use Rattle.std.specs.List.{slice_index_or}
use Rattle.std.proofs.Common.{◌≡◌, ℕ, suc, ◌+◌, ◌<◌, inl, inr, List, [], ◌∷◌, length, Option, Some, get_or, refl, sym, ap, subst, ◌∙◌, arith}
use Rattle.std.proofs.lemmas.Bool.{cases_lt}
use Rattle.std.proofs.lemmas.Option.{slice_get-get_or}
use Rattle.lido_base.specs.declared.ids.SymId.{SymId}
use Rattle.flat_grammar.specs.declared.flat.Occ.{Occ}
use Rattle.flat_grammar.specs.declared.flat.FlatSymbol.{FlatSymbol}
use Rattle.flat_grammar.specs.declared.flat.FlatRule.{FlatRule}
use Rattle.flat_grammar.specs.declared.plan.CycleStep.{CycleStep}
use Rattle.flat_grammar.specs.declared.plan.Label.{Label}
use Rattle.flat_grammar.specs.declared.plan.Label.TheVariants.{Direct, Induced, Partition}
use Rattle.flat_grammar.specs.WellFormed.{IsRule}
use Rattle.flat_grammar.specs.Dependencies.{DP, IDS, AreInducedRows}
use Rattle.flat_grammar.specs.Cycles.{EDP, IsWalk, IsCycle, IsAcyclic, IsAtMost, direct, induced, partition}
use Rattle.flat_grammar.proofs.Lists.{held}
use Rattle.partitions.specs.Graph.{IsEdge, IsGraph, IsOrdered, IsGraphCycle}
use Rattle.partitions.specs.RuleGraph.{AreNumbered, IsSetIn, IsNumberOf, IsExtended, AreExtended, IsRanked, IsInducedAt, IsNextPlace, AreStepsOf, IsStepOf}
use Rattle.partitions.specs.Symbols.{rows_at}
use Rattle.partitions.proofs.PeelingLemmas.{below-length, get-below, attribute-below}
use Rattle.partitions.proofs.SymbolsLemmas.{rows-of}
use Rattle.partitions.proofs.ExtendedLemmas.{induced-some}

module _ (symbols : List FlatSymbol) (rules : List FlatRule) (ids : List (List ℕ)) (are_ids : AreInducedRows symbols rules ids) (each_rule : All (IsRule symbols) rules) (r : FlatRule) (u v : Occ) where
  induced-of : (x : SymId) → IsSetIn (rows_at ids x.0) u.attr.0 v.attr.0 → IDS rules x u.attr v.attr
  induced-of x (row, at, bit) = ((rows-of symbols rules ids x are_ids).bits u.attr v.attr row at).0 bit

  in-induced : (x : SymId) → IDS rules x u.attr v.attr → IsSetIn (rows_at ids x.0) u.attr.0 v.attr.0
  in-induced x p =
      let rows = rows-of symbols rules ids x are_ids in
      let below = attribute-below symbols rules x u.attr (induced-some symbols rules x u.attr v.attr each_rule p).0 in
      let each = rows.each in
      let got = get-below (rows_at ids x.0) u.attr.0 (omega arith) in
      (got.0, got.1, (rows.bits u.attr v.attr got.0 got.1).1 p)

  pub label-induced : ¬ DP r u v → IsInducedAt r ids u v → IsExtended symbols rules r u v → EDP symbols rules r u v Induced
  label-induced other (x, at, set) (inl d) = absurd (other d)
  label-induced other (x, at, set) (inr (same, y, at', d)) = induced {x = x} other same at (induced-of x set)

  pub label-partition : ¬ DP r u v → ¬ IsInducedAt r ids u v → IsExtended symbols rules r u v → EDP symbols rules r u v Partition
  label-partition other none (inl d) = absurd (other d)
  label-partition other none (inr (same, x, at, inl p)) = absurd (none (x, at, in-induced x p))
  label-partition other none (inr (same, x, at, inr e)) = partition {x = x} other same at (λ p. none (x, at, in-induced x p)) e

pub next-is : (count place k : ℕ) → place < count → (place + 1 < count → k ≡ place + 1) → (place + 1 ≡ count → k ≡ 0) → IsNextPlace count place k
next-is count place k within next last = elim (cases_lt (suc place) count) [
  | inl l ↦ inl (l, (let e = next (omega arith) in omega arith))
  | inr g ↦ inr ((omega arith), last (omega arith))
]

module _ (preds : List (List ℕ)) (cycle : List ℕ) (is : IsGraphCycle preds cycle) where
  graph-step : (j k u v : ℕ) → IsNextPlace (length cycle) j k → slice_get cycle j ≡ Some u → slice_get cycle k ≡ Some v → IsEdge preds u v
  graph-step j k u v (inl e) at next = is.edges j u v at (ap (λ i. slice_get cycle i) (sym e.1) ∙ next)
  graph-step j k u v (inr e) at next = is.closed j u v e.0 at (ap (λ i. slice_get cycle i) (sym e.1) ∙ next)

  next-of : (j : ℕ) → j < length cycle → (k : ℕ) × IsNextPlace (length cycle) j k × (k < length cycle)
  next-of j l = elim (cases_lt (suc j) (length cycle)) [ inl m ↦ (suc j, inl (m, refl), m) | inr g ↦ (0, inr ((omega arith), refl), is.some) ]

walk-from : (symbols : List FlatSymbol) (rules : List FlatRule) (r : FlatRule) (steps : List CycleStep) (w : Occ) → 0 < length steps
    → ((j : ℕ) (a b : CycleStep) → slice_get steps j ≡ Some a → slice_get steps (suc j) ≡ Some b → EDP symbols rules r a.from b.from a.label)
    → ((j : ℕ) (a : CycleStep) → suc j ≡ length steps → slice_get steps j ≡ Some a → EDP symbols rules r a.from w a.label) → IsWalk symbols rules r steps w
walk-from symbols rules r [] w some edge last = absurd (omega arith)
walk-from symbols rules r (s ∷ []) w some edge last = last 0 s refl refl
walk-from symbols rules r (s ∷ q ∷ more) w some edge last = (edge 0 s q refl refl, walk-from symbols rules r (q ∷ more) w (omega arith) (λ j a b. edge (suc j) a b) (λ j a e. last (suc j) a (ap suc e)))

module _ (symbols : List FlatSymbol) (rules : List FlatRule) (r : FlatRule) (occs : List Occ) (starts : List ℕ) (preds : List (List ℕ)) (numbered : AreNumbered symbols r occs starts) (extended : AreExtended symbols rules r occs starts preds) where
  pub is-graph : IsGraph preds
  is-graph u v edge = let h = extended.to u v edge in let l = below-length occs u h.0 h.2 in let c = extended.count in omega arith

  -- an order of the graph is one of the attribute occurrences
  pub is-ranked : IsOrdered preds → IsRanked symbols rules r
  is-ranked (rank, bound, within, rises) = (
    λ o. rank (unwrap_or (slice_get starts o.occ) 0 + o.attr.0),
    bound,
    λ o p e.
        let h = extended.from o p e in
        let m = number o h.0 h.2 in
        let n = number p h.1 h.3 in
        let c = extended.count in
        let l = h.4 in
        let low = rises h.0 h.1 h.5 in
        let high = within h.1 (omega arith) in
        (subst (λ i. i < rank (unwrap_or (slice_get starts p.occ) 0 + p.attr.0)) (ap rank m) (subst (λ i. rank h.0 < i) (ap rank n) low), subst (λ i. i < bound) (ap rank n) high),
  )
    where
      number : (o : Occ) (n : ℕ) → IsNumberOf starts o n → n ≡ unwrap_or (slice_get starts o.occ) 0 + o.attr.0
      number o n (start, at, e) = e ∙ ap (λ (s : Option ℕ). unwrap_or s 0 + o.attr.0) (sym at)

  module _ (cycle : List ℕ) (is : IsGraphCycle preds cycle) where
    pub cycle-vertices : (j v : ℕ) → slice_get cycle j ≡ Some v → v < length occs
    cycle-vertices j v at =
        let k = next-of preds cycle is j (below-length cycle j v at) in
        let w = get-below cycle k.0 k.2 in
        let h = extended.to v w.0 (graph-step preds cycle is j k.0 v w.0 k.1 at w.1) in
        below-length occs v h.0 h.2

    pub cycle-steps : AreStepsOf symbols rules r occs cycle
    cycle-steps j k u v o p next at_j at_k at_u at_v =
        let h = extended.to u v (graph-step preds cycle is j k u v next at_j at_k) in
        subst (λ (z : Occ). IsExtended symbols rules r z p) (held (sym h.2 ∙ at_u)) (subst (λ (z : Occ). IsExtended symbols rules r h.0 z) (held (sym h.3 ∙ at_v)) h.4)

    module _ (steps : List CycleStep) (count : length steps ≡ length cycle) (each : (j : ℕ) (s : CycleStep) → slice_get steps j ≡ Some s → IsStepOf symbols rules r occs cycle j s) where
      edge-is : (j k : ℕ) (a b : CycleStep) → IsNextPlace (length cycle) j k → slice_get steps j ≡ Some a → slice_get steps k ≡ Some b → EDP symbols rules r a.from b.from a.label
      edge-is j k a b next at at_k =
          let h = each j a at in
          let same : h.0 ≡ k = one (length cycle) j h.0 k h.4 next in
          let g = each k b at_k in
          let v = held (sym h.6 ∙ ap (λ i. slice_get cycle i) same ∙ g.5) in
          subst (λ (z : Occ). EDP symbols rules r a.from z a.label) (held (sym h.8 ∙ ap (λ i. slice_get occs i) v ∙ g.7)) h.9
        where
          one : (n i k l : ℕ) → IsNextPlace n i k → IsNextPlace n i l → k ≡ l
          one n i k l (inl a) (inl b) = a.1 ∙ sym b.1
          one n i k l (inl a) (inr b) = absurd (let x = a.0 in let y = b.0 in omega arith)
          one n i k l (inr a) (inl b) = absurd (let x = a.0 in let y = b.0 in omega arith)
          one n i k l (inr a) (inr b) = a.1 ∙ sym b.1

      pairs-are : AllPairs (λ (p : CycleStep) (q : CycleStep). p.from ≡ q.from → ⊥) steps
      pairs-are i j d l m = λ same.
          let a = get_or steps i d in
          let b = get_or steps j d in
          let at_i = slice_get-get_or steps i d (omega arith) in
          let at_j = slice_get-get_or steps j d (omega arith) in
          let h = each i a at_i in
          let g = each j b at_j in
          let vertex : h.1 ≡ g.1 = numbered.vertices.apart h.1 g.1 b.from (h.7 ∙ ap Some same) g.7 in
          let place = is.apart i j g.1 (h.5 ∙ ap Some vertex) g.5 in
          absurd (omega arith)

      least-is : (s q : CycleStep) (k : ℕ) → slice_get steps 0 ≡ Some s → slice_get steps k ≡ Some q → IsAtMost s.from q.from
      least-is s q k at at_k = let h = each 0 s at in let g = each k q at_k in numbered.vertices.ascending h.1 g.1 s.from q.from (is.least k h.1 g.1 h.5 g.5) h.7 g.7

    pub cycle-is : (steps : List CycleStep) → length steps ≡ length cycle → ((j : ℕ) (s : CycleStep) → slice_get steps j ≡ Some s → IsStepOf symbols rules r occs cycle j s) → IsCycle symbols rules r steps
    cycle-is [] count each = let s = is.some in let e : 0 ≡ length cycle = count in omega arith
    cycle-is (s ∷ more) count each = (
      walk-from symbols rules r (s ∷ more) s.from (omega arith)
          (λ j a b at next. edge-is (s ∷ more) count each j (suc j) a b (inl ((let l = below-length (s ∷ more) (suc j) b next in omega arith), refl)) at next)
          (λ j a e at. edge-is (s ∷ more) count each j 0 a s (inr ((omega arith), refl)) at refl),
      pairs-are (s ∷ more) count each,
      λ k d l. least-is (s ∷ more) count each s (slice_index_or more k d) (suc k) refl (slice_get-get_or more k d l),
    )

module _ (symbols : List FlatSymbol) (rules : List FlatRule) (r : FlatRule) (ranked : IsRanked symbols rules r) where
  edge-rises : (u v : Occ) (l : Label) → EDP symbols rules r u v l → ranked.0 u < ranked.0 v
  edge-rises u v Direct (direct d) = (ranked.2 u v (inl d)).0
  edge-rises u v Induced (induced {x} other same at p) = (ranked.2 u v (inr (same, x, at, inl p))).0
  edge-rises u v Partition (partition {x} other same at none e) = (ranked.2 u v (inr (same, x, at, inr e))).0

  walk-rises : (s : CycleStep) (more : List CycleStep) (w : Occ) → IsWalk symbols rules r (s ∷ more) w → ranked.0 s.from < ranked.0 w
  walk-rises s [] w walk = edge-rises s.from w s.label walk
  walk-rises s (q ∷ more) w walk = let a = edge-rises s.from q.from s.label walk.0 in let b = walk-rises q more w walk.1 in omega arith

  pub ranked-acyclic : IsAcyclic symbols rules r
  ranked-acyclic [] cycle = cycle
  ranked-acyclic (s ∷ more) cycle = let l = walk-rises s more s.from cycle.0 in omega arith
