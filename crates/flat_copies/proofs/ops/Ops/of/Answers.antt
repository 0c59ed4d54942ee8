use Rattle.lido_base.specs.declared.ids.StrId.{StrId}
use Rattle.lido_base.specs.declared.operation.Op.{Op}
use Rattle.lido_base.specs.declared.operation.Op.TheVariants as op
use Rattle.flat_copies.specs.Ops.{op_in}
use Rattle.flat_copies.proofs.OpsLemmas.{ops-more}
use Rattle.flat_copies.proofs.ops.Ops.of.Goals as goal

pub loop-name-preserved : goal.loop-name-preserved
loop-name-preserved c = λ id.
    let none : StrId × Op = (record { 0 = 0 }, op.Add) in
    ops-more id c.args.named.now c.loop-name.name-index none c.loop-name-test.true (op_in c.loop-name.ops) (op_in c.set.new.self) c.loop-name.invariant c.in_ok-set.ensures
