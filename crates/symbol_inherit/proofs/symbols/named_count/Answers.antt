use Rattle.std.specs.Prelude.{option_to_list, filter_map}
use Rattle.std.proofs.Common.{◌∙◌, ap, sym, arith, length, take, length-append, List, ℕ}
use Rattle.rule_tables.specs.TablesOf.{symbol_named}
use Rattle.symbol_inherit.proofs.Lists.{filtered-more}
use Rattle.symbol_inherit.proofs.symbols.named_count.Goals as goal

pub loop-row-preserved : goal.loop-row-preserved
loop-row-preserved c = record {
  count =
      let more = filtered-more symbol_named c.args.rows.now c.loop-row.row-index c.row-item.result (symbol_named c.row-item.result) c.loop-row-test.true (ap symbol_named (sym c.row-item.is)) in
      let long = ap (λ (l : List ℕ). length l) more ∙ length-append (filter_map symbol_named (take c.loop-row.row-index c.args.rows.now)) (option_to_list (symbol_named c.row-item.result)) in
      let one = c.weight-count.ensures.weight in
      let before = c.loop-row.invariant.count in
      omega (arith, long, one, before);
  small = let one = c.weight-count.ensures.small in let before = c.loop-row.invariant.small in omega arith;
}
