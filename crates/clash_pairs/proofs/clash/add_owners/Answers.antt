use Rattle.std.proofs.Common.{arith}
use Rattle.std.proofs.lemmas.Option.{slice_get-get_or}
use Rattle.kind_clashes.proofs.NamesLemmas.{more-step, more-end, more-one}
use Rattle.clash_pairs.proofs.clash.add_owners.Goals as goal

pub loop-one-preserved : goal.loop-one-preserved
loop-one-preserved c = more-step _ (slice_get-get_or _ _ _ c.loop-one-test.true) c.loop-one.invariant (more-one c.in_ok-add.ensures)

pub returns : goal.returns
returns c = more-end (omega arith) c.loop-one.invariant
