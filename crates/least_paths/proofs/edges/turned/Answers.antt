use Rattle.std.proofs.Common.{◌∙◌, List, ℕ, subst, arith}
use Rattle.std.specs.Prelude.{Contains}
use Rattle.least_paths.proofs.GraphLemmas.{turned-next, edge-below}
use Rattle.least_paths.proofs.edges.turned.Goals as goal

pub loop-x-init : goal.loop-x-init
loop-x-init c = record { count = c.in_ok-back.ensures.count; edges = λ x y. ((λ m. absurd (c.in_ok-back.ensures.edges y x m)), (λ h. absurd (let l = h.0 in omega arith))) }

pub add_edges-requires : goal.add_edges-requires
add_edges-requires c = λ y m. omega (arith, c.requires c.loop-x.x y (subst (λ (r : List ℕ). Contains r y) c.row.ensures m), c.loop-x.invariant.count)

pub loop-x-preserved : goal.loop-x-preserved
loop-x-preserved c = record {
  count = c.in_ok-add_edges.ensures.count ∙ c.loop-x.invariant.count;
  edges = turned-next c.args.next.now c.loop-x.back.items c.add_edges.new.back.items c.row.result.now c.loop-x.x c.row.ensures c.loop-x.invariant.edges c.in_ok-add_edges.ensures.edges;
}

pub returns-clause-edges : goal.returns-clause-edges
returns-clause-edges c = λ x y. ((λ m. ((c.loop-x.invariant.edges x y).0 m).1), (λ m. (c.loop-x.invariant.edges x y).1 ((omega (arith, edge-below c.args.next.now x y m, c.loop-x-test.false)), m)))
