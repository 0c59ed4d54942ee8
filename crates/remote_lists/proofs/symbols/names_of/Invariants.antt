use Rattle.std.proofs.Common.{◌≡◌, take}
use Rattle.std.specs.Prelude.{filter_map}
use Rattle.lido_symbols.specs.Numbers.{different}
use Rattle.rule_tables.specs.TablesOf.{symbol_named}
use Rattle.remote_lists.proofs.symbols.names_of.Given as goal

-- the rows so far
abbrev pub invariant-loop-row : goal.invariant-loop-row
invariant-loop-row l = l.names ≡ different (filter_map symbol_named (take l.row-index l.rows))
