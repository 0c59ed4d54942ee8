use Rattle.core_machine.proofs.SiteLemmas.{attributes-are}
use Rattle.region_engine.proofs.sizes.attributes_at.Goals as goal

pub returns : goal.returns
returns c = λ r at. attributes-are c.args.job.now c.args.node c.rule_at.result.now r c.attributes_of.result.now c.rule_at.ensures c.attributes_of.ensures at
