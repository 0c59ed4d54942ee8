use Rattle.std.proofs.Common.{arith}
use Rattle.std.proofs.lemmas.Option.{slice_get-get_or}
use Rattle.kind_clashes.proofs.NamesLemmas.{more-step, more-end, more-one}
use Rattle.symbol_attributes.proofs.rows.add_row.Goals as goal

pub loop-attribute-preserved : goal.loop-attribute-preserved
loop-attribute-preserved c = more-step _ (slice_get-get_or _ _ 0 c.loop-attribute-test.true) c.loop-attribute.invariant (more-one c.in_ok-add.ensures)

pub returns : goal.returns
returns c = more-end (omega arith) c.loop-attribute.invariant
