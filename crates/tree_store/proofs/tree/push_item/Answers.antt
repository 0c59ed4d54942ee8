use Rattle.std.proofs.Common.{arith}
use Rattle.std.proofs.lemmas.Result.{err_from_is_err_and}
use Rattle.tree_store.proofs.StoredLemmas.{push_to, keep, places-table}
use Rattle.tree_store.proofs.tree.push_item.Goals as goal

pub returns-in_err-push-clause-refused : goal.returns-in_err-push-clause-refused
returns-in_err-push-clause-refused c = let p = err_from_is_err_and c.from_residual.result c.from_residual.ensures.1 in
    rw p.1 (keep c.args.nodes.now.items c.args.parent.0 c.index_mut-node.result.now c.push.new.self (omega arith) c.index_mut-node.ensures.value c.in_err-push.ensures.items)

pub returns-clause-added : goal.returns-clause-added
returns-clause-added c = push_to c.args.nodes.now.items c.args.parent.0 c.index_mut-node.result.now c.push.new.self c.args.item (omega arith) c.index_mut-node.ensures.value c.in_ok-push.ensures.items

pub returns-clause-place : goal.returns-clause-place
returns-clause-place c = omega (arith, places-table c.args.nodes.now.items c.args.parent.0 c.index_mut-node.result.now (omega arith) c.index_mut-node.ensures.value)
