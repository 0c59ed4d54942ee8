use Rattle.std.proofs.Common.{subst, sym, ap, arith, length}
use Rattle.tree_flattener.specs.Drafts.{IsNumbered}
use Rattle.tree_flattener.proofs.WalkLemmas.{met, numbered_closed, walk_up}
use Rattle.tree_flattener.proofs.walk.go_up.Goals as goal

pub around-requires-clause-numbered : goal.around-requires-clause-numbered
around-requires-clause-numbered c = subst (IsNumbered c.args.flat.now.symbols c.args.flat.now.rules c.args.flat.now.shapes c.args.written.now c.close.new.draft.flat c.close.new.draft.node_of) (sym c.close.ensures.same) (numbered_closed c.args.flat.now.symbols c.args.flat.now.rules c.args.flat.now.shapes c.args.written.now c.args.draft.now c.args.at c.requires.walk c.close.new.draft.flat c.close.new.draft.node_of c.in_ok-close.ensures.closed)

pub around-requires-clause-met : goal.around-requires-clause-met
around-requires-clause-met c = omega (arith, met c.args.flat.now.symbols c.args.flat.now.rules c.args.flat.now.shapes c.args.written.now c.args.draft.now c.args.at c.requires.walk, ap length c.close.ensures.same)

pub returns-clause-walk : goal.returns-clause-walk
returns-clause-walk c = walk_up c.args.flat.now.symbols c.args.flat.now.rules c.args.flat.now.shapes c.args.written.now c.args.draft.now c.args.at c.requires.walk c.close.new.draft c.around.result c.in_ok-close.ensures.closed c.close.ensures.same c.around.ensures.parent c.around.ensures.tail c.around.ensures.done
