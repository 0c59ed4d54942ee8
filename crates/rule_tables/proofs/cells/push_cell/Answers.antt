use Rattle.rule_tables.proofs.CellLemmas.{cell-added}
use Rattle.rule_tables.proofs.cells.push_cell.Goals as goal

pub returns-clause-cells : goal.returns-clause-cells
returns-clause-cells c spec env symbols later =
    cell-added spec env symbols c.args.rule.now c.in_ok-row.row c.args.rows.now.items c.push.new.self.items c.if-not-rule.false (c.in_ok-row.ensures.cell spec env symbols later) c.in_ok-push.ensures.items
