use Rattle.std.proofs.Common.{arith, false}
use Rattle.lido_base.specs.declared.kinds.Kind.TheVariants.{Synthesized}
use Rattle.lido_base.specs.declared.value.ValueType.TheVariants as type
use Rattle.core_machine.proofs.FaultLemmas.{fault-done}
use Rattle.core_machine.proofs.SiteLemmas.{attributes-count, few-of-node}
use Rattle.region_engine.specs.Finals.{final_values}
use Rattle.region_engine.proofs.FinishLemmas.{attribute-instance, fault-step}
use Rattle.region_engine.proofs.faults.with_node.Goals as goal

pub overflow_cast-k : goal.overflow_cast-k
overflow_cast-k c =
    let j = c.args.job.now in
    let a = attributes-count j c.facts.ensures c.args.node c.attributes_at-attr-items.result.now c.requires.inside c.attributes_at-attr-items.ensures in
    let b = few-of-node j c.facts.ensures c.args.node c.requires.inside in
    omega (arith, a, b, c.loop-k-test.true)

pub value_at-requires-clause-instance : goal.value_at-requires-clause-instance
value_at-requires-clause-instance c =
    attribute-instance c.args.job.now c.facts.ensures c.args.node c.loop-k.k c.attributes_at-attr-items.result.now c.requires.inside
    c.attributes_at-attr-items.ensures c.loop-k-test.true

pub loop-k-preserved : goal.loop-k-preserved
loop-k-preserved c =
    fault-step c.args.job.now c.facts.ensures c.args.node c.loop-k.k c.attributes_at-attr-items.result.now
    (record { name = record { 0 = 0 }; kind = Synthesized; ty = type.Int; written = false; message = false }) c.value_at.result c.loop-k.bad
    c.fault_at.result c.lesser-bad.result
    c.requires.inside c.attributes_at-attr-items.ensures c.loop-k-test.true c.value_at.ensures c.loop-k.invariant c.fault_at.ensures c.lesser-bad.ensures

pub returns : goal.returns
returns c = fault-done c.args.job.now c.facts.ensures (final_values c.args.job.now) c.args.node c.loop-k.k c.attributes_at-attr-items.result.now c.loop-k.bad
    c.requires.inside c.attributes_at-attr-items.ensures c.loop-k.auto.k-end c.loop-k-test.false c.loop-k.invariant
