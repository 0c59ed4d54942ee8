use Rattle.std.proofs.Common.{arith}
use Rattle.std.proofs.lemmas.Option.{slice_get-get_or}
use Rattle.kind_clashes.proofs.FirstsLemmas.{firsts-begin, firsts-step, firsts-end}
use Rattle.clash_pairs.proofs.kinds.firsts_of_others.Goals as goal

pub loop-one-init : goal.loop-one-init
loop-one-init c = firsts-begin c.new-firsts.ensures

pub loop-one-preserved : goal.loop-one-preserved
loop-one-preserved c = firsts-step _ (slice_get-get_or _ _ _ c.loop-one-test.true) c.loop-one.invariant c.in_ok-note_other.ensures

pub returns : goal.returns
returns c = firsts-end (omega arith) c.loop-one.invariant
