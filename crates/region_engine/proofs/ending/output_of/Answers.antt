use Rattle.std.proofs.Common.{◌≡◌, ◌-◌, Some, arith, length, subst}
use Rattle.core_machine.specs.Machine.{final}
use Rattle.core_machine.specs.Core.{machine}
use Rattle.core_machine.proofs.Jobs.{grown}
use Rattle.core_machine.proofs.FinishLemmas.{root-place}
use Rattle.core_machine.proofs.SiteLemmas.{attributes-count, few-of-node}
use Rattle.region_engine.proofs.FinishLemmas.{attribute-instance}
use Rattle.region_engine.proofs.ending.output_of.Goals as goal

pub attributes_at-count-requires : goal.attributes_at-count-requires
attributes_at-count-requires c = (grown c.args.job.now c.facts.ensures).tree.has_root

pub overflow_sub-count : goal.overflow_sub-count
overflow_sub-count c =
    let p = root-place c.args.job.now c.facts.ensures c.attributes_at-count.result.now c.attributes_at-count.ensures in
    omega (arith, p.0)

pub overflow_cast-count : goal.overflow_cast-count
overflow_cast-count c =
    let root = (grown c.args.job.now c.facts.ensures).tree.has_root in
    let a = attributes-count c.args.job.now c.facts.ensures 0 c.attributes_at-count.result.now root c.attributes_at-count.ensures in
    let b = few-of-node c.args.job.now c.facts.ensures 0 root in
    omega (arith, a, b)

pub value_at-requires-clause-instance : goal.value_at-requires-clause-instance
value_at-requires-clause-instance c =
    let xs = c.attributes_at-count.result.now in
    let p = root-place c.args.job.now c.facts.ensures xs c.attributes_at-count.ensures in
    attribute-instance c.args.job.now c.facts.ensures 0 (length xs - 1) xs (grown c.args.job.now c.facts.ensures).tree.has_root c.attributes_at-count.ensures
    (omega (arith, p.0))

pub returns : goal.returns
returns c =
    let p = root-place c.args.job.now c.facts.ensures c.attributes_at-count.result.now c.attributes_at-count.ensures in
    subst (λ k. (final (machine c.args.job.now)).values (0, k) ≡ Some c.value_at.result) p.1 c.value_at.ensures
