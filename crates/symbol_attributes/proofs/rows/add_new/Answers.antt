use Rattle.std.specs.Prelude.{is_some}
use Rattle.std.proofs.Common.{ap, sym, ◌∙◌}
use Rattle.symbol_attributes.proofs.RowsOfLemmas.{rows-kept, rows-added}
use Rattle.symbol_attributes.proofs.rows.add_new.Goals as goal

pub returns-then-is_some : goal.returns-then-is_some
returns-then-is_some c = λ list is are. rows-kept list c.args.said c.args.facts.now c.args.rows.now is (sym (ap is_some c.find.ensures) ∙ sym c.is_some.ensures ∙ c.if-is_some.true) are

pub returns : goal.returns
returns c = λ list is are. rows-added list c.args.said c.args.rows.now c.add.new.self c.in_ok-add.ensures are
