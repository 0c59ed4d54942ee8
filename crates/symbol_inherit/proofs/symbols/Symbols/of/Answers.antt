use Rattle.std.specs.Prelude.{filter_map}
use Rattle.std.proofs.Common.{◌∙◌, ap, sym, subst, length, List}
use Rattle.least_paths.specs.Graph.{IsGraph}
use Rattle.rule_tables.specs.declared.table.SymbolRow.{SymbolRow}
use Rattle.rule_tables.specs.TablesOf.{symbol_named}
use Rattle.symbol_inherit.specs.Classes.{graph_of, HasReaching}
use Rattle.symbol_inherit.proofs.HeirLemmas.{is-graph, are-heirs}
use Rattle.symbol_inherit.proofs.symbols.Symbols.of.Goals as goal

pub of-requires : goal.of-requires
of-requires c = subst (λ (l : List SymbolRow). IsGraph (graph_of l)) (sym c.as_slice-rows.ensures) (is-graph c.args.tables.now c.requires.tables.0 c.requires.tables.1)

pub returns : goal.returns
returns c = record {
  heirs = are-heirs c.args.tables.now c.requires.tables.0 c.requires.tables.1 c.in_ok-classes.classes
      (subst (λ (l : List SymbolRow). HasReaching (graph_of l) c.in_ok-classes.classes) c.as_slice-rows.ensures c.in_ok-classes.ensures);
  owns = c.in_ok-index.ensures;
  count = sym (c.named_count-count.ensures ∙ ap (λ (l : List SymbolRow). length (filter_map symbol_named l)) c.as_slice-rows.ensures);
}
