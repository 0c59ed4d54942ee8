use Rattle.std.proofs.Common.{◌≡◌, arith, subst, Some}
use Rattle.lido_base.specs.Tree.{rule_at}
use Rattle.core_machine.proofs.RoomLemmas.{known-cells}
use Rattle.region_engine.proofs.sizes.cells_of_node.Goals as goal

pub bounds-known-rule : goal.bounds-known-rule
bounds-known-rule c =
    let at = subst (λ t. rule_at t c.args.node ≡ Some c.rule.result.0) c.trees.ensures.flat c.rule.ensures in
    (known-cells c.args.job.now c.facts.ensures c.args.known.now c.requires.known c.args.node c.rule.result.0 c.requires.node at).0

pub overflow_cast-result-2 : goal.overflow_cast-result-2
overflow_cast-result-2 c =
    let at = subst (λ t. rule_at t c.args.node ≡ Some c.rule.result.0) c.trees.ensures.flat c.rule.ensures in
    let k = known-cells c.args.job.now c.facts.ensures c.args.known.now c.requires.known c.args.node c.rule.result.0 c.requires.node at in
    omega (arith, k.1, k.2)

pub returns : goal.returns
returns c =
    let at = subst (λ t. rule_at t c.args.node ≡ Some c.rule.result.0) c.trees.ensures.flat c.rule.ensures in
    (known-cells c.args.job.now c.facts.ensures c.args.known.now c.requires.known c.args.node c.rule.result.0 c.requires.node at).1
