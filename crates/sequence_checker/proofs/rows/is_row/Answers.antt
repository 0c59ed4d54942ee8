use Rattle.std.proofs.Common.{◌∙◌, sym}
use Rattle.sequence_checker.proofs.RowLemmas.{row-refused, row-is, same-tests}
use Rattle.sequence_checker.proofs.rows.is_row.Goals as goal

pub returns-then-not-branch : goal.returns-then-not-branch
returns-then-not-branch c = row-refused c.args.symbol.now c.args.row.now c.in_ok-numbers_kind.field-0 c.if-not-branch.true c.in_ok-numbers_kind.ensures

pub returns : goal.returns
returns c = row-is c.args.symbol.now c.args.row.now c.in_ok-numbers_kind.field-0 c.numbers_kind-2.result (sym c.is_some.ensures ∙ (same-tests c.is_some.result c.is_empty.result c.if-is_some-is_empty.false ∙ c.is_empty.ensures))
    c.if-not-branch.false c.in_ok-numbers_kind.ensures c.numbers_kind-2.ensures
