use Rattle.std.proofs.Common.{◌++◌, ◌∙◌, ap, flat_map}
use Rattle.lido_symbols.specs.Uses.{symbols_of_computation, production_names, is_coordinate_of_rule}
use Rattle.lido_symbols.proofs.CollectedLemmas.{collected_none, collected_more, collected_behind}
use Rattle.lido_symbols.proofs.symbol_uses.push_rule.Goals as goal

pub loop-comp-init : goal.loop-comp-init
loop-comp-init c env e = collected_none (symbols_of_computation (is_coordinate_of_rule env c.args.rule.now)) c.as_slice-comp-items.result.now c.push_production.new.names.items

pub loop-comp-preserved : goal.loop-comp-preserved
loop-comp-preserved c env e =
    collected_more (symbols_of_computation (is_coordinate_of_rule env c.args.rule.now)) c.as_slice-comp-items.result.now c.loop-comp.comp-index c.comp-item.result c.comp-item.result
    c.push_production.new.names.items c.loop-comp.names.items c.push_rule_comp.new.names.items c.loop-comp-test.true c.comp-item.is (c.loop-comp.invariant env e) (c.in_ok-push_rule_comp.ensures c.args.rule.now env c.in_ok-production.ensures e)

pub returns : goal.returns
returns c env spec e =
    let front = production_names c.args.rule.now in
    collected_behind (symbols_of_computation (is_coordinate_of_rule env c.args.rule.now)) c.as_slice-comp-items.result.now c.loop-comp.comp-index c.args.names.now.items front c.push_production.new.names.items c.loop-comp.names.items
    c.loop-comp-test.false c.in_ok-push_production.ensures (c.loop-comp.invariant env e)
    ∙ ap (λ l. c.args.names.now.items ++ (front ++ flat_map (symbols_of_computation (is_coordinate_of_rule env c.args.rule.now)) l)) c.as_slice-comp-items.ensures
