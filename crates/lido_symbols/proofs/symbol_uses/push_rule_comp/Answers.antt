use Rattle.std.proofs.Common.{◌++◌, ◌∙◌, ap, sym, map}
use Rattle.std.specs.Borrow.{Bor}
use Rattle.lido_syntax.specs.declared.spec.Expr.{Expr}
use Rattle.lido_syntax.specs.Parts.{leaves_of}
use Rattle.lido_symbols.specs.Uses.{symbols_in, symbols_of_target, is_coordinate_of_rule}
use Rattle.lido_symbols.proofs.CollectedLemmas.{collected_none, collected_more, collected_seen}
use Rattle.lido_symbols.proofs.symbol_uses.push_rule_comp.Goals as goal

pub loop-leaf-init : goal.loop-leaf-init
loop-leaf-init c rule env is e = collected_none (λ (r : Bor Expr). symbols_in (is_coordinate_of_rule env rule) r.now) c.deref-leaf-items.result.now c.push_target.new.names.items

pub loop-leaf-preserved : goal.loop-leaf-preserved
loop-leaf-preserved c rule env is e =
    collected_more (λ (r : Bor Expr). symbols_in (is_coordinate_of_rule env rule) r.now) c.deref-leaf-items.result.now c.loop-leaf.leaf-index c.leaf-item.result c.leaf-item.result
    c.push_target.new.names.items c.loop-leaf.names.items c.push_leaf.new.names.items c.loop-leaf-test.true c.leaf-item.is (c.loop-leaf.invariant rule env is e)
    (c.in_ok-push_leaf.ensures ∙ ap (λ more. c.loop-leaf.names.items ++ more) (sym (c.is_rule_coordinate.ensures rule env is e)))

pub returns : goal.returns
returns c rule env is e =
    collected_seen (symbols_in (is_coordinate_of_rule env rule)) c.deref-leaf-items.result.now (leaves_of c.args.comp.now) c.loop-leaf.leaf-index c.args.names.now.items (symbols_of_target c.args.comp.now.target) c.push_target.new.names.items c.loop-leaf.names.items
    c.loop-leaf-test.false (ap (map (λ (r : Bor Expr). r.now)) c.deref-leaf-items.ensures.value ∙ c.in_ok-found.ensures)
    c.in_ok-push_target.ensures (c.loop-leaf.invariant rule env is e)
