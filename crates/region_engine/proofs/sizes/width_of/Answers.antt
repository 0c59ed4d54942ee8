use Rattle.std.proofs.Common.{arith}
use Rattle.core_machine.proofs.SiteLemmas.{attributes-count}
use Rattle.core_machine.proofs.SlotLemmas.{few-here}
use Rattle.region_engine.proofs.sizes.width_of.Goals as goal

pub overflow_cast-result : goal.overflow_cast-result
overflow_cast-result c =
    let e = attributes-count c.args.job.now c.facts.ensures c.args.node c.attributes_at.result.now c.requires c.attributes_at.ensures in
    let f = few-here c.args.job.now c.facts.ensures c.args.node c.requires in
    omega (arith, e, f)

pub returns-clause-width : goal.returns-clause-width
returns-clause-width c = attributes-count c.args.job.now c.facts.ensures c.args.node c.attributes_at.result.now c.requires c.attributes_at.ensures

pub returns-clause-few : goal.returns-clause-few
returns-clause-few c =
    let e = attributes-count c.args.job.now c.facts.ensures c.args.node c.attributes_at.result.now c.requires c.attributes_at.ensures in
    let f = few-here c.args.job.now c.facts.ensures c.args.node c.requires in
    omega (arith, e, f)
