use Rattle.std.proofs.Common.{◌≡◌, take, length}
use Rattle.std.specs.List.{AllZip}
use Rattle.lido_base.specs.Environment.{Environment}
use Rattle.lido_base.specs.Texts.{Gains}
use Rattle.lido_symbols.specs.Numbers.{enumerated}
use Rattle.flat_slots.specs.Slots.{row_at}
use Rattle.flat_symbols.specs.Rows.{IsSymbolOf}
use Rattle.flat_symbols.proofs.symbols.symbols_of.Given as goal

-- the symbols so far
abbrev pub invariant-loop-x : goal.invariant-loop-x
invariant-loop-x l = record {
  made : (env : Environment) → Gains l.strings env.texts
      → AllZip (λ x y. IsSymbolOf env (length l.initial.strings) l.added x.1 (row_at l.table.rows x.0) y) (enumerated 0 (take l.x l.rows)) l.symbols.items;
  count : length l.symbols.items ≡ l.x;
  kept : Gains l.initial.strings l.strings;
}
