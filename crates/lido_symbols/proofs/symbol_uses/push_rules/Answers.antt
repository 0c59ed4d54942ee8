use Rattle.lido_symbols.specs.Uses.{symbols_of_rule}
use Rattle.lido_symbols.proofs.CollectedLemmas.{collected_none, collected_more, collected_all}
use Rattle.lido_symbols.proofs.symbol_uses.push_rules.Goals as goal

pub loop-rule-init : goal.loop-rule-init
loop-rule-init c env spec e = collected_none (symbols_of_rule spec env) c.args.rules.now c.args.names.now.items

pub loop-rule-preserved : goal.loop-rule-preserved
loop-rule-preserved c env spec e =
    collected_more (symbols_of_rule spec env) c.args.rules.now c.loop-rule.rule-index c.rule-item.result c.rule-item.result
    c.args.names.now.items c.loop-rule.names.items c.push_rule.new.names.items c.loop-rule-test.true c.rule-item.is (c.loop-rule.invariant env spec e) (c.in_ok-push_rule.ensures env spec e)

pub returns : goal.returns
returns c env spec e = collected_all (symbols_of_rule spec env) c.args.rules.now c.loop-rule.rule-index c.args.names.now.items c.loop-rule.names.items c.loop-rule-test.false (c.loop-rule.invariant env spec e)
