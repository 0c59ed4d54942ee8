use Rattle.std.proofs.Common.{ℕ, [], refl}
use Rattle.rule_tables.specs.declared.table.SymbolRow.{SymbolRow}
use Rattle.rule_tables.specs.declared.table.SymbolClass.TheVariants as class
use Rattle.need_graphs.proofs.ListLemmas.{numbered-more}
use Rattle.including_expand.specs.Extras.{symbol_attrs}
use Rattle.including_expand.proofs.extras.all_attrs.Goals as goal

pub loop-x-preserved : goal.loop-x-preserved
loop-x-preserved c =
    let its = symbol_attrs c.args.needs.now c.args.sets.now in
    let none : SymbolRow = record { name = record { 0 = 0 }; class = class.Cell; attrs = []; classes = [] } in
    numbered-more (λ (x : ℕ × SymbolRow). its x.0) c.args.rows.now c.loop-x.x none [] c.loop-x.attrs.items c.push_symbol.new.attrs.items (its c.loop-x.x)
    c.loop-x-test.true c.loop-x.invariant c.in_ok-push_symbol.ensures refl
