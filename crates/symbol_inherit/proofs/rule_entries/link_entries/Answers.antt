use Rattle.std.proofs.Common.{◌∙◌, ap, sym, subst, List}
use Rattle.rule_tables.specs.declared.table.SymbolRow.{SymbolRow}
use Rattle.rule_tables.specs.declared.forced.Force.{Force as Entry}
use Rattle.rule_tables.specs.ForcedOf.{AreEntriesOf}
use Rattle.symbol_inherit.specs.Entries.{attrs_at}
use Rattle.symbol_inherit.proofs.EntryLemmas.{none-yet}
use Rattle.symbol_inherit.proofs.WholeLemmas.{nothing-there, link-begin, link-end}
use Rattle.symbol_inherit.proofs.rule_entries.link_entries.Goals as goal

pub returns : goal.returns
returns c = λ env p known is.
    let t = c.args.tables.now in
    let own = nothing-there t is.r is.is_list c.new-nothing.result c.new-nothing.ensures in
    let attrs = ap (λ (l : List SymbolRow). attrs_at l c.args.element.0) (sym c.as_slice-rows.ensures) ∙ sym c.attributes-attrs.ensures in
    let zero = none-yet t p c.new-entries.result.items c.new-entries.ensures.items in
    let one = link-begin env t c.args.symbols.now known p c.new-entries.result.items c.args.element is zero in
    let two = c.in_ok-push_attributes.ensures env t p is.r is.s known own is.occurs attrs one in
    subst (λ (l : List Entry). AreEntriesOf t p l) (sym c.from_vec.ensures) (link-end env t c.args.symbols.now known p c.push_attributes.new.entries.items c.args.element is two)
