use Rattle.std.proofs.Common.{◌∙◌, Some, ap, sym, arith}
use Rattle.std.proofs.lemmas.Option.{slice_get-get_or}
use Rattle.kind_clashes.proofs.LeastLemmas.{first-begin, first-step, first-end}
use Rattle.constituents_expand.proofs.faults.least_lack.Goals as goal

pub loop-one-init : goal.loop-one-init
loop-one-init c = first-begin

pub loop-one-preserved : goal.loop-one-preserved
loop-one-preserved c = first-step c.one-item.result (slice_get-get_or c.args.uses.now c.loop-one.one-index c.one-item.result c.loop-one-test.true ∙ ap Some (sym c.one-item.is)) c.earlier-found.ensures c.loop-one.invariant c.lack_at.ensures

pub returns : goal.returns
returns c = first-end (omega arith) c.loop-one.invariant
