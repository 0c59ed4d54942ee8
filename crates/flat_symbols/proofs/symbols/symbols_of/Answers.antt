use Rattle.std.proofs.Common.{arith, ℕ, ◌+◌, List, length, take, sym, subst}
use Rattle.std.proofs.lemmas.List.{take_all}
use Rattle.std.specs.List.{AllZip}
use Rattle.lido_symbols.specs.Numbers.{enumerated}
use Rattle.flat_grammar.specs.declared.flat.FlatSymbol.{FlatSymbol}
use Rattle.rule_tables.specs.declared.table.SymbolRow.{SymbolRow}
use Rattle.rule_tables.proofs.LaterTexts.{more-again, no-fewer}
use Rattle.rule_tables.proofs.PlainLemmas.{zip-more}
use Rattle.flat_slots.specs.Slots.{row_at}
use Rattle.flat_symbols.specs.Rows.{IsSymbolOf}
use Rattle.flat_symbols.proofs.MadeLemmas.{symbol-below}
use Rattle.flat_symbols.proofs.symbols.symbols_of.Goals as goal

pub loop-x-preserved : goal.loop-x-preserved
loop-x-preserved c =
    let old = c.args.strings.now in
    let before = c.loop-x.strings in
    let new = c.symbol.new.strings in
    let added = c.args.added.now in
    let rows = c.args.table.now.rows in
    let limit = length old in
    let x = c.loop-x.x in
    let row = c.index-rows-x.result in
    let symbol = c.in_ok-symbol.field-0 in
    record {
      made = λ env later.
          let R : ℕ × SymbolRow → FlatSymbol → Type 0 = λ x y. IsSymbolOf env limit added x.1 (row_at rows x.0) y in
          subst (λ (l : List FlatSymbol). AllZip R (enumerated 0 (take (x + 1) c.args.rows.now)) l) (sym c.in_ok-push.ensures.items)
          (zip-more R c.args.rows.now x row row c.loop-x.symbols.items symbol c.loop-x-test.true c.index-rows-x.is
          (symbol-below env limit (length before) (no-fewer old before c.loop-x.invariant.kept) added row (row_at rows x) symbol
          (subst (λ slots. IsSymbolOf env (length before) added row slots symbol) c.slots_at.ensures (c.in_ok-symbol.ensures.symbol env later)))
          (c.loop-x.invariant.made env (more-again before new env.texts c.in_ok-symbol.ensures.kept later)));
      count = omega (arith, c.in_ok-push.ensures.len, c.loop-x.invariant.count);
      kept = more-again old before new c.loop-x.invariant.kept c.in_ok-symbol.ensures.kept;
    }

pub returns-clause-symbols : goal.returns-clause-symbols
returns-clause-symbols c env later =
    let R : ℕ × SymbolRow → FlatSymbol → Type 0 = λ x y. IsSymbolOf env (length c.args.strings.now) c.args.added.now x.1 (row_at c.args.table.now.rows x.0) y in
    subst (λ (l : List SymbolRow). AllZip R (enumerated 0 l) c.loop-x.symbols.items) (take_all c.loop-x.x c.args.rows.now c.loop-x-test.false)
    (c.loop-x.invariant.made env later)
