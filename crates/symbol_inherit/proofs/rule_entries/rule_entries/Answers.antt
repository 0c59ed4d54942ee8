use Rattle.std.proofs.Common.{◌∙◌, ap, sym, subst, List}
use Rattle.rule_tables.specs.declared.table.SymbolRow.{SymbolRow}
use Rattle.rule_tables.specs.declared.forced.Force.{Force as Entry}
use Rattle.rule_tables.specs.ForcedOf.{AreEntriesOf}
use Rattle.symbol_inherit.specs.Entries.{attrs_at}
use Rattle.symbol_inherit.proofs.RuleLemmas.{rule-at}
use Rattle.symbol_inherit.proofs.EntryLemmas.{none-yet}
use Rattle.symbol_inherit.proofs.MessageLemmas.{output-more}
use Rattle.symbol_inherit.proofs.WholeLemmas.{last-occ, rule-filled}
use Rattle.symbol_inherit.proofs.rule_entries.rule_entries.Goals as goal

pub returns : goal.returns
returns c = λ env p known are with.
    let t = c.args.tables.now in
    let r = c.args.rule.now in
    let occurs = with.at_left.1 in
    let s = with.at_left.0 in
    let has = c.in_ok-index.ensures t.spec are in
    let own = rule-at t.spec r c.in_ok-index.index has 0 in
    let attrs = ap (λ (l : List SymbolRow). attrs_at l c.args.left.0) (sym c.as_slice-rows.ensures) ∙ sym c.attributes-attrs.ensures in
    let zero = none-yet t p c.new-entries.result.items c.new-entries.ensures.items in
    let one = c.in_ok-push_attributes.ensures env t p r s known own occurs attrs zero in
    let two = c.in_ok-push_right_side.ensures env t p r known has (sym c.as_slice-rows.ensures) with.at_right one in
    let three = last-occ env t c.args.symbols.now known p c.push_right_side.new.entries.items r c.args.left c.args.right.now with two in
    let four = c.in_ok-push_chains.ensures env t p r s known own occurs (sym c.as_slice-declared.ensures) three in
    let five = c.in_ok-push_chains-2.ensures env t p r s known own occurs (sym c.as_slice-declared.ensures) four in
    let six = output-more t p r s c.args.left.0 known.single occurs c.as_slice-body.result.now (sym c.as_slice-body.ensures) c.output-out.result c.output-out.ensures
    c.push_chains-2.new.entries.items c.push_held.new.entries.items five c.in_ok-push_held.ensures in
    let seven = c.in_ok-push_messages.ensures t p r s c.args.left.0 known.single occurs (sym c.as_slice-body.ensures) six in
    subst (λ (l : List Entry). AreEntriesOf t p l) (sym c.from_vec.ensures)
    (rule-filled env t c.args.symbols.now known p c.push_messages.new.entries.items r c.args.left c.args.right.now with seven)
