use Rattle.std.specs.Prelude.{[]}
use Rattle.lido_base.specs.declared.value.ValueType.TheVariants.{Int}
use Rattle.expr_types.proofs.RowsLemmas.{pattern-there, pattern-absent}
use Rattle.expr_types.proofs.table.row_at.Goals as goal

pub returns-then-k-patterns : goal.returns-then-k-patterns
returns-then-k-patterns c = λ written same.
    pattern-there c.args.patterns.now written c.args.k (record { args = record { ref_ptr = (0, 0); now = [] }; gives = Int }) same c.if-k-patterns.true

pub returns-else-k-patterns : goal.returns-else-k-patterns
returns-else-k-patterns c = λ written same. pattern-absent c.args.patterns.now written c.args.k same c.if-k-patterns.false
