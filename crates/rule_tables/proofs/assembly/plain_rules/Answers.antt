use Rattle.std.proofs.Common.{sym, subst, map, ◌++◌, List}
use Rattle.std.specs.List.{AllZip, flat_map}
use Rattle.lido_syntax.specs.declared.spec.RuleItem.{RuleItem}
use Rattle.lido_symbols.specs.Numbers.{enumerated}
use Rattle.rule_tables.specs.PlainRules.{written_rule, cell_rules}
use Rattle.rule_tables.specs.TablesOf.{IsPlainOf}
use Rattle.rule_tables.proofs.assembly.plain_rules.Goals as goal

pub returns-clause-plain : goal.returns-clause-plain
returns-clause-plain c env later =
    let spec = c.args.spec.now in
    let symbols = c.args.symbols.now in
    let written = λ (l : List RuleItem). map (written_rule spec symbols) (enumerated 0 l) in
    let of_cells = λ (l : List RuleItem). flat_map (cell_rules spec symbols) (enumerated 0 l) in
    let first = c.as_slice.result.now in
    let again = c.as_slice-2.result.now in
    let new = c.push_rules_of_cells.new.plain.items in
    subst (λ l. AllZip (IsPlainOf spec env symbols) (written l ++ of_cells spec.rules) new) c.as_slice.ensures
    (subst (λ l. AllZip (IsPlainOf spec env symbols) (written first ++ of_cells l) new) c.as_slice-2.ensures
    (c.in_ok-push_rules_of_cells.ensures.plain spec env later (sym c.as_slice-2.ensures) (written first) (c.in_ok-plain.ensures spec env (sym c.as_slice.ensures))))
