use Rattle.flat_grammar.specs.Instances.{instance_at}
use Rattle.flat_grammar.proofs.Lists.{contains-slice_get}
use Rattle.core_machine.proofs.RunLemmas.{computation-is, site-inside}
use Rattle.region_engine.proofs.Evaluations.{awaits-all, begins-still, behind-all, cells-still, going-all, going-missed, inputs-all, next-still, own-still, sized-still}
use Rattle.region_engine.proofs.evaluation.evaluate_next.Goals as goal

pub rule_at-rule-requires : goal.rule_at-rule-requires
rule_at-rule-requires c =
    site-inside c.args.job.now c.facts.ensures (instance_at c.args.job.now.flat c.args.node c.args.goal) c.args.node c.args.goal c.requires.site

pub look_up-requires-clause-node : goal.look_up-requires-clause-node
look_up-requires-clause-node c =
    site-inside c.args.job.now c.facts.ensures (instance_at c.args.job.now.flat c.args.node c.args.goal) c.args.node c.args.goal c.requires.site

pub look_up-requires-clause-sized : goal.look_up-requires-clause-sized
look_up-requires-clause-sized c =
    c.requires.next.1.behind.sized

pub node_at-requires : goal.node_at-requires
node_at-requires c =
    site-inside c.args.job.now c.facts.ensures (instance_at c.args.job.now.flat c.args.node c.args.goal) c.args.node c.args.goal c.requires.site

pub invariant_of-here : goal.invariant_of-here
invariant_of-here c =
    record {
      begins = begins-still c.args.job.now c.facts.ensures c.args.values.now c.args.bench.now.room c.args.node c.args.goal c.requires.site c.rule_at-rule.result.now c.in-Some.comp.now (computation-is c.args.job.now c.facts.ensures (instance_at c.args.job.now.flat c.args.node c.args.goal) c.args.node c.args.goal c.requires.site c.rule_at-rule.result.now c.rule_at-rule.ensures c.in-Some.comp.now c.in-Some.ensures.some.0 c.in-Some.ensures.some.1) c.look_up.new.values c.args.desk.now c.look_up.new.desk c.look_up.ensures.looked c.requires.next.0 c.requires.next.1;
      inside = site-inside c.args.job.now c.facts.ensures (instance_at c.args.job.now.flat c.args.node c.args.goal) c.args.node c.args.goal c.requires.site;
      origin_inside = c.node_at.ensures.inside;
    }

pub value_of-value-requires-clause-cells : goal.value_of-value-requires-clause-cells
value_of-value-requires-clause-cells c =
    cells-still c.args.job.now c.facts.ensures c.args.values.now c.args.bench.now.room c.args.node c.args.goal c.requires.site c.rule_at-rule.result.now c.in-Some.comp.now (computation-is c.args.job.now c.facts.ensures (instance_at c.args.job.now.flat c.args.node c.args.goal) c.args.node c.args.goal c.requires.site c.rule_at-rule.result.now c.rule_at-rule.ensures c.in-Some.comp.now c.in-Some.ensures.some.0 c.in-Some.ensures.some.1) c.look_up.new.values c.args.desk.now c.look_up.new.desk c.look_up.ensures.looked c.requires.next.0 c.requires.next.1

pub value_of-value-requires-clause-stack : goal.value_of-value-requires-clause-stack
value_of-value-requires-clause-stack c =
    c.requires.stack c.rule_at-rule.result.now c.in-Some.comp.now (contains-slice_get c.args.job.now.rules c.rule_at-rule.ensures.0 c.rule_at-rule.result.now c.rule_at-rule.ensures.2) c.in-Some.ensures.some.0

pub keep-requires-clause-own : goal.keep-requires-clause-own
keep-requires-clause-own c =
    own-still c.args.job.now c.facts.ensures c.args.values.now c.args.bench.now.room c.args.node c.args.goal c.requires.site c.rule_at-rule.result.now c.in-Some.comp.now (computation-is c.args.job.now c.facts.ensures (instance_at c.args.job.now.flat c.args.node c.args.goal) c.args.node c.args.goal c.requires.site c.rule_at-rule.result.now c.rule_at-rule.ensures c.in-Some.comp.now c.in-Some.ensures.some.0 c.in-Some.ensures.some.1) c.look_up.new.values c.args.desk.now c.look_up.new.desk c.look_up.ensures.looked c.requires.next.0 c.requires.next.1

pub keep-requires-clause-sized : goal.keep-requires-clause-sized
keep-requires-clause-sized c =
    sized-still c.args.job.now c.facts.ensures c.args.values.now c.args.bench.now.room c.args.node c.args.goal c.requires.site c.rule_at-rule.result.now c.in-Some.comp.now (computation-is c.args.job.now c.facts.ensures (instance_at c.args.job.now.flat c.args.node c.args.goal) c.args.node c.args.goal c.requires.site c.rule_at-rule.result.now c.rule_at-rule.ensures c.in-Some.comp.now c.in-Some.ensures.some.0 c.in-Some.ensures.some.1) c.look_up.new.values c.args.desk.now c.look_up.new.desk c.look_up.ensures.looked c.requires.next.0 c.requires.next.1

pub returns-in-Ok-clause-behind : goal.returns-in-Ok-clause-behind
returns-in-Ok-clause-behind c =
    behind-all c.args.job.now c.facts.ensures c.args.values.now c.args.bench.now.room c.args.node c.args.goal c.requires.site c.rule_at-rule.result.now c.in-Some.comp.now (computation-is c.args.job.now c.facts.ensures (instance_at c.args.job.now.flat c.args.node c.args.goal) c.args.node c.args.goal c.requires.site c.rule_at-rule.result.now c.rule_at-rule.ensures c.in-Some.comp.now c.in-Some.ensures.some.0 c.in-Some.ensures.some.1) c.look_up.new.values c.args.desk.now c.look_up.new.desk c.look_up.ensures.looked c.in-Ok.ensures.at_hand c.value_of-value.result c.value_of-value.new.bench.room c.keep.new.self c.keep.ensures c.value_of-value.ensures.exact c.value_of-value.ensures.number c.value_of-value.ensures.space

pub returns-in-Ok-clause-going_on : goal.returns-in-Ok-clause-going_on
returns-in-Ok-clause-going_on c =
    going-all c.args.job.now c.facts.ensures c.args.values.now c.args.bench.now.room c.args.node c.args.goal c.requires.site c.rule_at-rule.result.now c.in-Some.comp.now (computation-is c.args.job.now c.facts.ensures (instance_at c.args.job.now.flat c.args.node c.args.goal) c.args.node c.args.goal c.requires.site c.rule_at-rule.result.now c.rule_at-rule.ensures c.in-Some.comp.now c.in-Some.ensures.some.0 c.in-Some.ensures.some.1) c.look_up.new.values c.args.desk.now c.look_up.new.desk c.look_up.ensures.looked c.in-Ok.ensures.at_hand c.value_of-value.result c.value_of-value.new.bench.room c.keep.new.self c.keep.ensures

pub returns-in-Ok-clause-inputs : goal.returns-in-Ok-clause-inputs
returns-in-Ok-clause-inputs c =
    inputs-all c.args.job.now c.facts.ensures c.args.values.now c.args.bench.now.room c.args.node c.args.goal c.requires.site c.rule_at-rule.result.now c.in-Some.comp.now (computation-is c.args.job.now c.facts.ensures (instance_at c.args.job.now.flat c.args.node c.args.goal) c.args.node c.args.goal c.requires.site c.rule_at-rule.result.now c.rule_at-rule.ensures c.in-Some.comp.now c.in-Some.ensures.some.0 c.in-Some.ensures.some.1) c.look_up.new.values c.args.desk.now c.look_up.new.desk c.look_up.ensures.looked c.in-Ok.ensures.at_hand c.value_of-value.result c.value_of-value.new.bench.room c.keep.new.self c.keep.ensures c.requires.next.0 c.requires.next.1

pub returns-in-Err-clause-stays : goal.returns-in-Err-clause-stays
returns-in-Err-clause-stays c =
    λ n next. (next-still c.args.job.now c.facts.ensures c.args.values.now c.args.bench.now.room c.args.node c.args.goal c.requires.site c.rule_at-rule.result.now c.in-Some.comp.now (computation-is c.args.job.now c.facts.ensures (instance_at c.args.job.now.flat c.args.node c.args.goal) c.args.node c.args.goal c.requires.site c.rule_at-rule.result.now c.rule_at-rule.ensures c.in-Some.comp.now c.in-Some.ensures.some.0 c.in-Some.ensures.some.1) c.look_up.new.values c.args.desk.now c.look_up.new.desk c.look_up.ensures.looked n next).behind

pub returns-in-Err-clause-going_on : goal.returns-in-Err-clause-going_on
returns-in-Err-clause-going_on c =
    going-missed c.args.job.now c.facts.ensures c.args.values.now c.args.bench.now.room c.args.node c.args.goal c.requires.site c.rule_at-rule.result.now c.in-Some.comp.now (computation-is c.args.job.now c.facts.ensures (instance_at c.args.job.now.flat c.args.node c.args.goal) c.args.node c.args.goal c.requires.site c.rule_at-rule.result.now c.rule_at-rule.ensures c.in-Some.comp.now c.in-Some.ensures.some.0 c.in-Some.ensures.some.1) c.look_up.new.values c.args.desk.now c.look_up.new.desk c.look_up.ensures.looked

pub returns-in-Err-clause-awaits : goal.returns-in-Err-clause-awaits
returns-in-Err-clause-awaits c =
    awaits-all c.args.job.now c.facts.ensures c.args.values.now c.args.bench.now.room c.args.node c.args.goal c.requires.site c.rule_at-rule.result.now c.in-Some.comp.now (computation-is c.args.job.now c.facts.ensures (instance_at c.args.job.now.flat c.args.node c.args.goal) c.args.node c.args.goal c.requires.site c.rule_at-rule.result.now c.rule_at-rule.ensures c.in-Some.comp.now c.in-Some.ensures.some.0 c.in-Some.ensures.some.1) c.look_up.new.values c.args.desk.now c.look_up.new.desk c.look_up.ensures.looked c.in-Err.ensures.missed c.requires.next.0 c.requires.next.1
