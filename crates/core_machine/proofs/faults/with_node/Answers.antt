use Rattle.std.proofs.Common.{arith, get_or, pos, false}
use Rattle.lido_base.specs.declared.kinds.Kind.TheVariants.{Synthesized}
use Rattle.lido_base.specs.declared.value.ValueType.TheVariants as type
use Rattle.lido_base.specs.declared.value.Value.TheVariants as value
use Rattle.core_machine.proofs.SlotLemmas.{begin-read, begin-inside, place-inside}
use Rattle.core_machine.proofs.SiteLemmas.{attributes-count}
use Rattle.core_machine.proofs.FaultLemmas.{fault-step, fault-done}
use Rattle.core_machine.proofs.faults.with_node.Goals as goal

pub bounds-begins-node : goal.bounds-begins-node
bounds-begins-node c = begin-inside c.args.job.now c.args.begins.now c.requires.begins c.args.node c.requires.inside

pub offset_bounds-values-begin : goal.offset_bounds-values-begin
offset_bounds-values-begin c =
    let a = attributes-count c.args.job.now c.facts.ensures c.args.node c.attributes_at-attr-items.result.now c.requires.inside c.attributes_at-attr-items.ensures in
    let b = begin-read c.args.job.now c.args.begins.now c.requires.begins c.args.node c.requires.inside in
    let d = place-inside c.args.job.now c.facts.ensures c.args.node c.loop-k.k c.requires.inside (omega (arith, a, c.loop-k-test.true)) in
    omega (arith, b, d.1)

pub bounds-values-begin : goal.bounds-values-begin
bounds-values-begin c =
    let a = attributes-count c.args.job.now c.facts.ensures c.args.node c.attributes_at-attr-items.result.now c.requires.inside c.attributes_at-attr-items.ensures in
    let b = begin-read c.args.job.now c.args.begins.now c.requires.begins c.args.node c.requires.inside in
    let d = place-inside c.args.job.now c.facts.ensures c.args.node c.loop-k.k c.requires.inside (omega (arith, a, c.loop-k-test.true)) in
    omega (arith, b, d.0, c.requires.many)

pub loop-k-preserved : goal.loop-k-preserved
loop-k-preserved c =
    let a = attributes-count c.args.job.now c.facts.ensures c.args.node c.attributes_at-attr-items.result.now c.requires.inside c.attributes_at-attr-items.ensures in
    let b = begin-read c.args.job.now c.args.begins.now c.requires.begins c.args.node c.requires.inside in
    let d = place-inside c.args.job.now c.facts.ensures c.args.node c.loop-k.k c.requires.inside (omega (arith, a, c.loop-k-test.true)) in
    fault-step c.args.job.now c.facts.ensures c.args.values.now c.args.node c.loop-k.k (get_or c.args.begins.now c.args.node 0) c.attributes_at-attr-items.result.now
    (record { name = record { 0 = 0 }; kind = Synthesized; ty = type.Int; written = false; message = false }) (value.Int (pos 0)) c.loop-k.bad c.fault_at.result c.lesser-bad.result
    c.requires.inside c.attributes_at-attr-items.ensures c.loop-k-test.true b (omega (arith, b, d.0, c.requires.many)) c.loop-k.invariant c.fault_at.ensures c.lesser-bad.ensures

pub returns : goal.returns
returns c = fault-done c.args.job.now c.facts.ensures c.args.values.now c.args.node c.loop-k.k c.attributes_at-attr-items.result.now c.loop-k.bad
    c.requires.inside c.attributes_at-attr-items.ensures c.loop-k.auto.k-end c.loop-k-test.false c.loop-k.invariant
