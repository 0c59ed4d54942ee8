use Rattle.std.proofs.Common.{sym}
use Rattle.symbol_inherit.proofs.WholeLemmas.{first-link, no-first, cell-end}
use Rattle.symbol_inherit.proofs.rule_entries.cell_entries.Goals as goal

pub returns-in_ok-entries-in-Some : goal.returns-in_ok-entries-in-Some
returns-in_ok-entries-in-Some c = λ env p known is.
    c.in_ok-entries-in-Some.ensures env p known (first-link c.args.tables.now p c.args.right.now c.in-Some.element.now (sym c.in-Some.ensures.value) is)

pub returns-in-None : goal.returns-in-None
returns-in-None c = λ env p known is.
    cell-end env c.args.tables.now c.args.symbols.now known p c.new.result (no-first c.args.tables.now p c.args.right.now (sym c.in-None.ensures.value) is) c.new.ensures
