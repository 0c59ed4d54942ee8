use Rattle.std.proofs.Common.{arith, refl, inl}
use Rattle.table_faults.specs.Limits.{size_of}
use Rattle.table_faults.proofs.LimitsLemmas.{counts-step, counts-end}
use Rattle.table_faults.proofs.limits.body_size.Goals as goal

pub loop-comp-init : goal.loop-comp-init
loop-comp-init c = inl refl

pub loop-comp-preserved : goal.loop-comp-preserved
loop-comp-preserved c = counts-step size_of c.args.body.now c.loop-comp.comp-index c.comp-item.result c.comp-item.result c.loop-comp.size _ _ c.loop-comp-test.true c.comp-item.is c.loop-comp.invariant
    c.in_ok-comp_size.ensures c.saturating_add-size.ensures

pub returns : goal.returns
returns c = counts-end size_of c.args.body.now c.loop-comp.comp-index c.loop-comp.size (omega arith) c.loop-comp.invariant
