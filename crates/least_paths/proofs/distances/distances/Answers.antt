use Rattle.std.proofs.Common.{◌∙◌, ◌<◌, ◌+◌, None, Option, ◌++◌, length, List, ℕ, sym, ap, subst, vec_len, arith}
use Rattle.std.specs.Prelude.{Contains, IsTrue, ◌↔◌}
use Rattle.std.proofs.lemmas.List.{length-replicate}
use Rattle.least_paths.specs.Graph.{IsEdge, has_edge, is_in}
use Rattle.least_paths.proofs.GraphLemmas.{edge-below, in-below, edge-test, test-edge}
use Rattle.least_paths.proofs.LevelLemmas.{some-items, level-start, level-more}
use Rattle.least_paths.proofs.distances.distances.Goals as goal

pub mark_row-requires : goal.mark_row-requires
mark_row-requires c = λ x m.
    let none = c.in_ok-dist.ensures in
    let below = in-below c.args.sources.now x ((c.in_ok-sources_of.ensures x).0 (subst (λ (r : List ℕ). Contains r x) c.deref.ensures.value m)) in
    subst (λ (o : List (Option ℕ)). x < length o) (sym none) (omega (arith, below, c.requires.each, length-replicate {A = Option ℕ} (length c.args.next.now) None))

pub loop-alloc-init : goal.loop-alloc-init
loop-alloc-init c =
    let none = c.in_ok-dist.ensures in
    let m = c.in_ok-mark_row.ensures in
    let h = level-start (is_in c.args.sources.now) (has_edge c.args.next.now) (length c.args.next.now) c.in_ok-dist.dist.items c.mark_row.new.dist.items c.deref.result.now c.mark_row.new.added.items none
    (subst (λ (r : List ℕ). (x : ℕ) → Contains r x ↔ IsTrue (is_in c.args.sources.now x)) (sym c.deref.ensures.value) c.in_ok-sources_of.ensures)
    (m.0, m.1 ∙ ap (λ (xs : List ℕ). xs ++ m.0) c.new-front.ensures.items, m.2) in
    record { count = h.2; level = h.0; bound = h.1 }

pub mark_level-requires : goal.mark_level-requires
mark_level-requires c = λ x y m.
    let e = (c.in_ok-back.ensures.edges x y).0 (subst (λ (b : List (List ℕ)). IsEdge b y x) c.deref-in-loop-alloc.ensures.value m) in
    omega (arith, edge-below c.args.next.now x y e, c.loop-alloc.invariant.count)

pub loop-alloc-preserved : goal.loop-alloc-preserved
loop-alloc-preserved c =
    let p = c.in_ok-front.ensures in
    let h = level-more (is_in c.args.sources.now) (has_edge c.args.next.now) (length c.args.next.now) c.loop-alloc.dist.items c.mark_level.new.dist.items c.loop-alloc.front.items c.deref-in-loop-alloc-2.result.now c.in_ok-front.front.items
    c.loop-alloc.d (c.loop-alloc.d + 1) c.deref-in-loop-alloc.result.now c.loop-alloc.invariant.level c.deref-in-loop-alloc-2.ensures.value (omega arith) p
    (subst (λ (b : List (List ℕ)). (x y : ℕ) → IsEdge b y x ↔ IsTrue (has_edge c.args.next.now x y)) (sym c.deref-in-loop-alloc.ensures.value)
    (λ x y. ((λ m. test-edge c.args.next.now x y ((c.in_ok-back.ensures.edges x y).0 m)), (λ t. (c.in_ok-back.ensures.edges x y).1 (edge-test c.args.next.now x y t)))))
    c.loop-alloc.invariant.bound (let k = some-items c.is_empty.result (vec_len c.loop-alloc.front) c.is_empty.ensures c.loop-alloc-test.true in omega (arith, k, c.loop-alloc.front.ok.0)) in
    record { count = p.count ∙ c.loop-alloc.invariant.count; level = h.0; bound = h.1 }
