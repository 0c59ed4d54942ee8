use Rattle.std.proofs.Common.{arith}
use Rattle.std.proofs.lemmas.Option.{slice_get-get_or}
use Rattle.kind_clashes.proofs.LeastLemmas.{first-end}
use Rattle.table_faults.proofs.DoublesLemmas.{firsts-step, firsts-begin}
use Rattle.table_faults.proofs.doubles.Firsts.of.Goals as goal

pub loop-computed-init : goal.loop-computed-init
loop-computed-init c = firsts-begin c.args.all.now _ c.new-firsts.ensures

pub loop-computed-preserved : goal.loop-computed-preserved
loop-computed-preserved c = firsts-step c.args.all.now c.loop-computed.computed-index _ _ _ (slice_get-get_or _ _ _ c.loop-computed-test.true)
    c.in_ok-note.ensures c.loop-computed.invariant

pub returns : goal.returns
returns c = λ place aim. first-end (omega arith) (c.loop-computed.invariant place aim)
