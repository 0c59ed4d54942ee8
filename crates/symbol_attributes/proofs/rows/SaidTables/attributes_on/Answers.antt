use Rattle.std.proofs.Common.{arith}
use Rattle.std.proofs.lemmas.Option.{slice_get-get_or}
use Rattle.kind_clashes.proofs.NamesLemmas.{more-step, more-end, more-at}
use Rattle.symbol_attributes.proofs.RowsOfLemmas.{said-on}
use Rattle.symbol_attributes.proofs.rows.SaidTables.attributes_on.Goals as goal

pub loop-symbol-preserved : goal.loop-symbol-preserved
loop-symbol-preserved c = more-step _ (slice_get-get_or _ _ 0 c.loop-symbol-test.true) c.loop-symbol.invariant (more-at c.row.ensures c.in_ok-add_row.ensures)

pub returns : goal.returns
returns c = λ list are. said-on list c.args.self.now.rows c.args.symbols.now c.new-set.result c.loop-symbol.set are c.new-set.ensures (more-end (omega arith) c.loop-symbol.invariant)
