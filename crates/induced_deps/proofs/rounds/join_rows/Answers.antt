use Rattle.std.proofs.Common.{◌∙◌, refl, arith, ◌<◌, lt-ltb}
use Rattle.induced_deps.proofs.RoundLemmas.{no_rows, one_row_more}
use Rattle.induced_deps.proofs.rounds.join_rows.Goals as goal
use Rattle.induced_deps.proofs.rounds.join_rows.Goals.{then-join_row, else-join_row}

pub loop-a-init : goal.loop-a-init
loop-a-init c = record { size = refl; transitive = c.requires.transitive; edges = no_rows c.args.closure.now.rows.items c.args.place c.args.rows.now }

pub loop-a-preserved : goal.loop-a-preserved
loop-a-preserved c =
    let l = c.loop-a in
    let p = c.join_row in
    let more : 0 < c.if-join_row.left → 0 < l.left = λ some. elim c.if-join_row.branch [
      | then-join_row w ↦ (let e = w.left-is in let f = w.saturating_sub-left.ensures in omega arith)
      | else-join_row w ↦ (let e = w.left-is in omega arith)
    ] in
    record {
      size = p.ensures.size ∙ l.invariant.size;
      transitive = λ some. p.ensures.transitive (lt-ltb 0 l.left (more some));
      edges = one_row_more c.args.closure.now.rows.items l.closure.rows.items p.new.closure.rows.items c.args.place c.args.rows.now l.a _ c.index-rows-a.result c.loop-a-test.true c.index-rows-a.is l.invariant.edges p.ensures.edges;
    }
