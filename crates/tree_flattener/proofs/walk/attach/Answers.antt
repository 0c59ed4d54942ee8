use Rattle.std.proofs.Common.{subst}
use Rattle.tree_flattener.specs.Forms.{IsForm}
use Rattle.tree_flattener.proofs.WalkLemmas.{inside}
use Rattle.tree_flattener.proofs.walk.attach.Goals as goal

pub form_at-requires-clause-inside : goal.form_at-requires-clause-inside
form_at-requires-clause-inside c = inside c.args.flat.now.symbols c.args.flat.now.rules c.args.flat.now.shapes c.args.written.now c.args.draft.now c.args.at c.requires.walk

pub attach_element-requires-clause-list : goal.attach_element-requires-clause-list
attach_element-requires-clause-list c = λ shape among is. subst (IsForm c.args.flat.now.symbols c.args.flat.now.rules shape) c.in-Chain.is (c.form_at.ensures shape among is)

pub unreachable-requires : goal.unreachable-requires
unreachable-requires c = let (shape, among, is) = c.requires.walk.suits.shaped c.args.at.node (inside c.args.flat.now.symbols c.args.flat.now.rules c.args.flat.now.shapes c.args.written.now c.args.draft.now c.args.at c.requires.walk) in subst (IsForm c.args.flat.now.symbols c.args.flat.now.rules shape) c.in-Unnamed.is (c.form_at.ensures shape among is)
