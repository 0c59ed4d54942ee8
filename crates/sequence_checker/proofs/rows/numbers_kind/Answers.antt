use Rattle.std.proofs.Common.{◌∙◌}
use Rattle.sequence_checker.proofs.RowLemmas.{numbered, not-numbered, parts-are}
use Rattle.sequence_checker.proofs.rows.numbers_kind.Goals as goal

pub returns-in-Some : goal.returns-in-Some
returns-in-Some c = numbered c.args.symbol.now c.args.kind c.args.row.now c.deref.result.now (c.deref.ensures.value ∙ (c.in_ok-attrs.ensures ∙ parts-are c.args.kind c.args.row.now)) c.in_ok-set.field-0 c.in-Some.set c.has_all_of_kind.result
    c.in-Some.is c.in_ok-set.ensures c.has_all_of_kind.ensures

pub returns : goal.returns
returns c = not-numbered c.args.symbol.now c.args.kind c.args.row.now c.deref.result.now (c.deref.ensures.value ∙ (c.in_ok-attrs.ensures ∙ parts-are c.args.kind c.args.row.now)) c.in_ok-set.field-0 c.in-None.is c.in_ok-set.ensures
