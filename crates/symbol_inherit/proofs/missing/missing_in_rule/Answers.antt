use Rattle.std.proofs.Common.{◌∙◌, ap, sym, subst, List}
use Rattle.rule_tables.specs.declared.table.SymbolRow.{SymbolRow}
use Rattle.symbol_inherit.specs.Entries.{attrs_at}
use Rattle.symbol_inherit.specs.Missing.{IsMissingAt}
use Rattle.symbol_inherit.proofs.RuleLemmas.{rule-at}
use Rattle.symbol_inherit.proofs.MissingLemmas.{from-left}
use Rattle.symbol_inherit.proofs.missing.missing_in_rule.Goals as goal

pub returns-in-Some : goal.returns-in-Some
returns-in-Some c = λ env T i s known numbers are place places root.
    let t = c.args.tables.now in
    let r = c.args.rule.now in
    let has = c.in_ok-index.ensures t.spec are in
    let attrs = ap (λ (l : List SymbolRow). attrs_at l c.args.left.0) (sym c.as_slice-rows.ensures) ∙ sym c.attributes-attrs.ensures in
    (c.in-Some.ensures env t T r i s known numbers (rule-at t.spec r c.in_ok-index.index has 0) place root attrs, λ o b l m. l)

pub returns : goal.returns
returns c = λ env T i s known numbers are place places root.
    let t = c.args.tables.now in
    let r = c.args.rule.now in
    let has = c.in_ok-index.ensures t.spec are in
    let attrs = ap (λ (l : List SymbolRow). attrs_at l c.args.left.0) (sym c.as_slice-rows.ensures) ∙ sym c.attributes-attrs.ensures in
    let none = subst (λ o. IsMissingAt t.spec T i 0 o) c.in_default.is
    (c.missing_left.ensures env t T r i s known numbers (rule-at t.spec r c.in_ok-index.index has 0) place root attrs) in
    from-left t T i none c.in_ok-found.found (c.in_ok-found.ensures env t T r i known numbers has (sym c.as_slice-rows.ensures) places)
