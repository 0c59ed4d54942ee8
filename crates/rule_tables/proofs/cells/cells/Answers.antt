use Rattle.std.proofs.Common.{subst, sym, take, filter}
use Rattle.std.specs.List.{AllZip}
use Rattle.rule_tables.specs.TablesOf.{IsCellOf}
use Rattle.rule_tables.proofs.PlainLemmas.{is_list}
use Rattle.rule_tables.proofs.LaterTexts.{more-again}
use Rattle.rule_tables.proofs.CellLemmas.{called-there, filter-more}
use Rattle.rule_tables.proofs.cells.cells.Goals as goal

pub push_cell-requires : goal.push_cell-requires
push_cell-requires c = called-there c.args.strings.now c.loop-rule.strings c.args.rules.now c.requires c.loop-rule.invariant.kept c.loop-rule.rule-index c.rule-item.result c.loop-rule-test.true c.rule-item.is

pub loop-rule-preserved : goal.loop-rule-preserved
loop-rule-preserved c =
    let rules = c.args.rules.now in
    let i = c.loop-rule.rule-index in
    record {
      cells = λ spec env symbols later.
          subst (λ l. AllZip (IsCellOf spec env symbols) l c.push_cell.new.rows.items) (sym (filter-more is_list rules i c.rule-item.result c.loop-rule-test.true c.rule-item.is))
          (c.in_ok-push_cell.ensures.cells spec env symbols later (filter is_list (take i rules)) (c.loop-rule.invariant.cells spec env symbols (more-again c.loop-rule.strings c.push_cell.new.strings env.texts c.in_ok-push_cell.ensures.kept later)));
      kept = more-again c.args.strings.now c.loop-rule.strings c.push_cell.new.strings c.loop-rule.invariant.kept c.in_ok-push_cell.ensures.kept;
    }
