use Rattle.std.proofs.Common.{arith}
use Rattle.std.proofs.lemmas.Option.{slice_get-get_or}
use Rattle.kind_clashes.proofs.FirstsLemmas.{firsts-begin, firsts-step, firsts-end}
use Rattle.kind_clashes.proofs.firsts.firsts_of.Goals as goal

pub loop-name-init : goal.loop-name-init
loop-name-init c = firsts-begin c.new-firsts.ensures

pub loop-name-preserved : goal.loop-name-preserved
loop-name-preserved c = firsts-step _ (slice_get-get_or _ _ _ c.loop-name-test.true) c.loop-name.invariant c.in_ok-note.ensures

pub returns : goal.returns
returns c = firsts-end (omega arith) c.loop-name.invariant
