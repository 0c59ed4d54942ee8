use Rattle.std.specs.Prelude.{Contains}
use Rattle.std.specs.List.{AllZip}
use Rattle.std.proofs.Common.{◌≡◌, ℕ, length, take}
use Rattle.lido_base.specs.Environment.{Environment}
use Rattle.table_faults.specs.Faults.{IsKnown}
use Rattle.rule_tables.specs.TablesOf.{IsRowOf}
use Rattle.rule_tables.proofs.rows.rows.Given as goal

abbrev pub invariant-loop-attrs : goal.invariant-loop-attrs
invariant-loop-attrs l = record {
  count : length l.rows.items ≡ length l.yielded;
  rows : (env : Environment) → ((s : ℕ) → Contains l.symbols s → ¬ ¬ IsKnown l.spec env s)
      → AllZip (IsRowOf l.spec env l.symbols) (take (length l.yielded) l.symbols) l.rows.items;
}
