use Rattle.std.proofs.Common.{arith}
use Rattle.std.proofs.lemmas.Option.{slice_get-get_or}
use Rattle.kind_clashes.proofs.NamesLemmas.{more-begin, more-step, more-end}
use Rattle.table_faults.proofs.doubles.add_seen.Goals as goal

pub loop-name-init : goal.loop-name-init
loop-name-init c = more-begin

pub loop-name-preserved : goal.loop-name-preserved
loop-name-preserved c = more-step _ (slice_get-get_or _ _ _ c.loop-name-test.true) c.loop-name.invariant c.in_ok-add_if_seen.ensures

pub returns : goal.returns
returns c = more-end (omega arith) c.loop-name.invariant
