use Rattle.std.specs.Prelude.{◌≡◌, ℕ, length}
use Rattle.lido_base.specs.Types.{Signature}
use Rattle.expr_types.proofs.RowsLemmas.{row-step, row-none, row-here}
use Rattle.expr_types.proofs.rows.takes_many.Goals as goal

abbrev Takes : ℕ → Signature → Type 0
Takes n row = length row.args ≡ n

pub loop-row-preserved : goal.loop-row-preserved
loop-row-preserved c = λ has.
    row-step (Takes c.args.count) c.args.rows.now c.loop-row.row-index _ c.loop-row-test.true c.if-row-count.false (c.loop-row.invariant has)

pub returns-then-row-count-clause-some : goal.returns-then-row-count-clause-some
returns-then-row-count-clause-some c = λ yes. row-here (Takes c.args.count) c.args.rows.now c.loop-row.row-index _ c.loop-row-test.true c.if-row-count.true

pub returns-clause-none : goal.returns-clause-none
returns-clause-none c = λ no has. row-none (Takes c.args.count) c.args.rows.now c.loop-row.row-index c.loop-row-test.false (c.loop-row.invariant has)
