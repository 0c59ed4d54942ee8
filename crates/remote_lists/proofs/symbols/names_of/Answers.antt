use Rattle.std.specs.Prelude.{filter_map}
use Rattle.std.proofs.Common.{◌∙◌, List, ap, take_all}
use Rattle.lido_symbols.specs.Numbers.{different}
use Rattle.rule_tables.specs.declared.table.SymbolRow.{SymbolRow}
use Rattle.rule_tables.specs.TablesOf.{symbol_named}
use Rattle.remote_lists.specs.Listings.{with_name}
use Rattle.remote_lists.proofs.ListingLemmas.{names-more}
use Rattle.remote_lists.proofs.symbols.names_of.Goals as goal

pub loop-row-preserved : goal.loop-row-preserved
loop-row-preserved c = names-more c.args.rows.now c.loop-row.row-index c.row-item.result c.loop-row.names c.add_name.new.names c.loop-row-test.true c.loop-row.invariant
    (c.in_ok-add_name.ensures ∙ ap (λ (r : SymbolRow). with_name c.loop-row.names (symbol_named r)) c.row-item.is)

pub returns : goal.returns
returns c = c.loop-row.invariant ∙ ap (λ (l : List SymbolRow). different (filter_map symbol_named l)) (take_all c.loop-row.row-index c.args.rows.now c.loop-row-test.false)
