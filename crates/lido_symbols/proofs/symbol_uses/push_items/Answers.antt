use Rattle.lido_symbols.specs.Uses.{symbols_of_item}
use Rattle.lido_symbols.proofs.CollectedLemmas.{collected_none, collected_more, collected_all}
use Rattle.lido_symbols.proofs.symbol_uses.push_items.Goals as goal

pub loop-item-init : goal.loop-item-init
loop-item-init c env spec e = collected_none (symbols_of_item spec env) c.args.items.now c.args.names.now.items

pub loop-item-preserved : goal.loop-item-preserved
loop-item-preserved c env spec e =
    collected_more (symbols_of_item spec env) c.args.items.now c.loop-item.item-index c.item-item.result c.item-item.result
    c.args.names.now.items c.loop-item.names.items c.push_item.new.names.items c.loop-item-test.true c.item-item.is (c.loop-item.invariant env spec e) (c.in_ok-push_item.ensures env spec e)

pub returns : goal.returns
returns c env spec e = collected_all (symbols_of_item spec env) c.args.items.now c.loop-item.item-index c.args.names.now.items c.loop-item.names.items c.loop-item-test.false (c.loop-item.invariant env spec e)
