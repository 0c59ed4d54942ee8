use Rattle.std.proofs.Common.{◌∙◌, sym, subst}
use Rattle.lido_base.specs.Tree.{IsNode}
use Rattle.tree_store.specs.Growth.{IsTerminal}
use Rattle.core_machine.proofs.SiteLemmas.{nothing-at, kind-at}
use Rattle.region_engine.proofs.sites.stands_at.Goals as goal

pub terminal-requires : goal.terminal-requires
terminal-requires c = subst (λ t. IsTerminal t c.args.node c.args.occ) (sym c.trees.ensures.flat)
    ((kind-at c.args.job.now c.facts.ensures c.args.node c.rule_at.result.now c.args.occ c.in-Some.symbol c.rule_at.ensures c.if-occ-eq0.false (sym c.in-Some.ensures)).0
    (sym c.is_terminal.ensures ∙ c.if-is_terminal.true))

pub child-requires : goal.child-requires
child-requires c = subst (λ t. IsNode t c.args.node c.args.occ) (sym c.trees.ensures.flat)
    ((kind-at c.args.job.now c.facts.ensures c.args.node c.rule_at.result.now c.args.occ c.in-Some.symbol c.rule_at.ensures c.if-occ-eq0.false (sym c.in-Some.ensures)).1
    (sym c.is_terminal.ensures ∙ c.if-is_terminal.false))

pub returns-in-None : goal.returns-in-None
returns-in-None c = sym (nothing-at c.args.job.now c.facts.ensures c.args.node c.rule_at.result.now c.args.occ c.rule_at.ensures (sym c.in-None.ensures))
