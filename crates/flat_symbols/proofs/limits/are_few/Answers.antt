use Rattle.std.proofs.Common.{arith}
use Rattle.flat_symbols.proofs.RowLemmas.{few-more, long-row, few-all}
use Rattle.flat_symbols.proofs.limits.are_few.Goals as goal

pub loop-row-preserved : goal.loop-row-preserved
loop-row-preserved c =
    few-more c.args.table.now.rows c.as_slice-row-items.result.now c.loop-row.row-index c.row-item.result c.as_slice-row-items.ensures
    c.loop-row-test.true c.row-item.is (omega arith) c.loop-row.invariant

pub returns-then-len-gt-MOST-clause-more : goal.returns-then-len-gt-MOST-clause-more
returns-then-len-gt-MOST-clause-more c =
    long-row c.args.table.now.rows c.as_slice-row-items.result.now c.loop-row.row-index c.row-item.result c.as_slice-row-items.ensures
    c.loop-row-test.true c.row-item.is (omega arith)

pub returns-clause-few : goal.returns-clause-few
returns-clause-few c = few-all c.args.table.now.rows c.as_slice-row-items.result.now c.loop-row.row-index c.as_slice-row-items.ensures
    c.loop-row-test.false c.loop-row.invariant
