use Rattle.std.proofs.Common.{◌<◌, ◌∙◌, ◌-◌, ◌+◌, ◌≡◌, arith, refl, length}
use Rattle.std.proofs.lemmas.List.{length-set}
use Rattle.induced_deps.specs.Rows.{Nothing}
use Rattle.induced_deps.proofs.ClosureLemmas.{gains_none, closed_past, closed_next, gains_row}
use Rattle.induced_deps.proofs.closure.Closure.close.Goals as goal

pub loop-k-init : goal.loop-k-init
loop-k-init c = record { size = refl; closed = λ v past. closed_past c.args.self.now.rows.items v (omega arith); edges = gains_none c.args.self.now.rows.items Nothing (λ v w h. h) }

pub behind-row-requires-clause-closed : goal.behind-row-requires-clause-closed
behind-row-requires-clause-closed c = λ u above. c.loop-k.invariant.closed u (omega (arith, above, c.len.ensures, c.loop-k-test.true, c.len-k-end.ensures, c.loop-k.invariant.size))

pub loop-k-preserved : goal.loop-k-preserved
loop-k-preserved c =
    let rows = c.loop-k.self.rows.items in
    let from = c.len.result - 1 - c.loop-k.k in
    let row = c.behind-row.result in
    let b = c.behind-row.ensures in
    let within : from < length rows = omega (arith, c.len.ensures, c.loop-k-test.true, c.len-k-end.ensures, c.loop-k.invariant.size) in
    let place : from + (c.loop-k.k + 1) ≡ length c.args.self.now.rows.items = omega (arith, c.len.ensures, c.loop-k-test.true, c.len-k-end.ensures, c.loop-k.invariant.size) in
    record {
      size = length-set rows from row ∙ c.loop-k.invariant.size;
      closed = closed_next rows from row within b.own b.closed b.follow (length c.args.self.now.rows.items) c.loop-k.k place c.loop-k.invariant.closed;
      edges = gains_row rows from row within b.own b.closed b.follow c.args.self.now.rows.items c.loop-k.invariant.edges;
    }

pub returns-clause-transitive : goal.returns-clause-transitive
returns-clause-transitive c = λ u v w first second. c.loop-k.invariant.closed u (omega (arith, c.loop-k-test.false, c.len-k-end.ensures)) v w first second
