use Rattle.std.proofs.Common.{◌≡◌, ◌≤◌, ◌<◌, ◌+◌, ◌∙◌, ap, sym, subst, arith, length, Some}
use Rattle.flat_grammar.specs.Fitting.{cells}
use Rattle.flat_grammar.specs.Rules.{HasRule}
use Rattle.flat_grammar.specs.Instances.{instance_at}
use Rattle.flat_grammar.proofs.Lists.{held, contains-slice_get}
use Rattle.core_machine.specs.Core.{Task, Computation, outcome}
use Rattle.core_machine.specs.Slots.{all_offsets, found}
use Rattle.core_machine.proofs.RunLemmas.{computation-is, site-inside}
use Rattle.core_machine.proofs.run.given.Goals as goal

pub invariant_of-here : goal.invariant_of-here
invariant_of-here c = record {
  offsets = c.requires.begins ∙ ap all_offsets (sym c.job-job.ensures);
  inside = subst (λ (t : Task). c.args.node < length t.flat) (sym c.job-job.ensures) (site-inside c.args.whole.now c.facts.ensures (instance_at c.args.whole.now.flat c.args.node c.args.goal) c.args.node c.args.goal c.requires.site);
  origin_inside = c.node_at.ensures.inside;
}

pub value_of-requires-clause-cells : goal.value_of-requires-clause-cells
value_of-requires-clause-cells c =
    let at = subst (λ (t : Task). HasRule t.rules t.flat c.args.node c.rule_at-rule.result.now) c.job-job.ensures c.rule_at-rule.ensures in
    c.requires.cells (c.args.node, c.rule_at-rule.result.now, c.in-Some.comp.now)
    (computation-is c.args.whole.now c.facts.ensures (instance_at c.args.whole.now.flat c.args.node c.args.goal) c.args.node c.args.goal c.requires.site c.rule_at-rule.result.now at c.in-Some.comp.now c.in-Some.ensures.some.0 c.in-Some.ensures.some.1)

pub value_of-requires-clause-stack : goal.value_of-requires-clause-stack
value_of-requires-clause-stack c =
    let at = subst (λ (t : Task). HasRule t.rules t.flat c.args.node c.rule_at-rule.result.now) c.job-job.ensures c.rule_at-rule.ensures in
    let few = c.requires.stack c.rule_at-rule.result.now c.in-Some.comp.now (contains-slice_get c.args.whole.now.rules at.0 c.rule_at-rule.result.now at.2) c.in-Some.ensures.some.0 in
    omega (arith, few, c.requires.empty)

pub returns-clause-exact : goal.returns-clause-exact
returns-clause-exact c = λ k e.
    let at = subst (λ (t : Task). HasRule t.rules t.flat c.args.node c.rule_at-rule.result.now) c.job-job.ensures c.rule_at-rule.ensures in
    let is = computation-is c.args.whole.now c.facts.ensures (instance_at c.args.whole.now.flat c.args.node c.args.goal) c.args.node c.args.goal c.requires.site c.rule_at-rule.result.now at c.in-Some.comp.now c.in-Some.ensures.some.0 c.in-Some.ensures.some.1 in
    let same : (c.args.node, c.rule_at-rule.result.now, c.in-Some.comp.now) ≡ k = held (sym is ∙ e) in
    c.value_of.ensures.exact
    ∙ ap (λ (t : Task). outcome t c.args.room.now.number (found t c.args.values.now) c.args.room.now.deposits (Some (c.args.node, c.rule_at-rule.result.now, c.in-Some.comp.now))) c.job-job.ensures
    ∙ ap (λ (z : Computation). outcome c.args.whole.now c.args.room.now.number (found c.args.whole.now c.args.values.now) c.args.room.now.deposits (Some z)) same

pub returns-clause-space : goal.returns-clause-space
returns-clause-space c = λ k e.
    let at = subst (λ (t : Task). HasRule t.rules t.flat c.args.node c.rule_at-rule.result.now) c.job-job.ensures c.rule_at-rule.ensures in
    let is = computation-is c.args.whole.now c.facts.ensures (instance_at c.args.whole.now.flat c.args.node c.args.goal) c.args.node c.args.goal c.requires.site c.rule_at-rule.result.now at c.in-Some.comp.now c.in-Some.ensures.some.0 c.in-Some.ensures.some.1 in
    let same : (c.args.node, c.rule_at-rule.result.now, c.in-Some.comp.now) ≡ k = held (sym is ∙ e) in
    subst (λ (z : Computation). c.args.room.now.space ≤ c.value_of.new.room.space + cells z.2.value) same c.value_of.ensures.space
