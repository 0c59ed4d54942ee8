use Rattle.std.proofs.Common.{◌≡◌, map, take}
use Rattle.expr_types.specs.Rows.{signatures_of, pattern_signature}
use Rattle.expr_types.proofs.table.pattern_rows.Given as goal

abbrev pub invariant-loop-pattern : goal.invariant-loop-pattern
invariant-loop-pattern l = signatures_of l.rows.items ≡ map pattern_signature (take l.pattern-index l.patterns)
