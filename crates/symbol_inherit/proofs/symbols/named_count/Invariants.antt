use Rattle.std.proofs.Common.{◌≡◌, ◌≤◌, length, take}
use Rattle.std.specs.Prelude.{filter_map}
use Rattle.rule_tables.specs.TablesOf.{symbol_named}
use Rattle.symbol_inherit.proofs.symbols.named_count.Given as goal

abbrev pub invariant-loop-row : goal.invariant-loop-row
invariant-loop-row l = record { count : l.count ≡ length (filter_map symbol_named (take l.row-index l.rows)); small : l.count ≤ l.row-index }
