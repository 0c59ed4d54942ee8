use Rattle.std.proofs.Common.{◌<◌, ◌-◌, ap, arith, length, pos}
use Rattle.lido_base.specs.declared.value.Value.TheVariants as value
use Rattle.core_machine.proofs.Jobs.{grown}
use Rattle.core_machine.proofs.FinishLemmas.{out-inside, root-attributes, first-slot, root-place}
use Rattle.core_machine.proofs.finish.output_of.Goals as goal

pub attributes_at-count-requires : goal.attributes_at-count-requires
attributes_at-count-requires c = (grown c.args.job.now c.facts.ensures).tree.has_root

pub overflow_sub-place : goal.overflow_sub-place
overflow_sub-place c =
    let e = ap length (root-attributes c.args.job.now c.facts.ensures c.attributes_at-count.result.now c.attributes_at-count.ensures) in
    let f = out-inside c.args.job.now c.facts.ensures (length c.attributes_at-count.result.now) e in
    omega (arith, f)

pub bounds-values-place : goal.bounds-values-place
bounds-values-place c =
    let p = root-place c.args.job.now c.facts.ensures c.attributes_at-count.result.now c.attributes_at-count.ensures in
    omega (arith, p, c.requires)

pub returns : goal.returns
returns c =
    let p = root-place c.args.job.now c.facts.ensures c.attributes_at-count.result.now c.attributes_at-count.ensures in
    let inside : length c.attributes_at-count.result.now - 1 < length c.args.values.now = omega (arith, p.2, c.requires) in
    first-slot c.args.job.now (length c.attributes_at-count.result.now - 1) c.args.values.now (value.Int (pos 0)) p.1 inside
