use Rattle.std.proofs.Common.{arith, sym}
use Rattle.tree_flattener.proofs.WalkLemmas.{next_around, next_all_met}
use Rattle.tree_flattener.proofs.flatten_tree.attach_all.Goals as goal

pub climb-requires-clause-around : goal.climb-requires-clause-around
climb-requires-clause-around c = next_around c.args.written.now c.requires.walk.suits.tree c.loop-n.at.node c.loop-n.n c.in-Some.parent.0 c.loop-n.invariant.last (sym c.in-Some.ensures.parent)

pub climb-requires-clause-all_met : goal.climb-requires-clause-all_met
climb-requires-clause-all_met c = λ m path above k d at. let h = next_all_met c.args.written.now c.requires.walk.suits.tree c.loop-n.at.node c.loop-n.n c.in-Some.parent.0 c.loop-n.invariant.last (sym c.in-Some.ensures.parent) m path above k d at in omega (arith, c.loop-n.invariant.count)
