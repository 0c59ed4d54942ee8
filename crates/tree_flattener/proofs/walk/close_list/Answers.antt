use Rattle.std.proofs.Common.{arith}
use Rattle.tree_flattener.proofs.WalkLemmas.{inside, few_in_cell, closed_list}
use Rattle.tree_flattener.proofs.walk.close_list.Goals as goal

pub add-requires-clause-few_items : goal.add-requires-clause-few_items
add-requires-clause-few_items c = omega (arith, few_in_cell c.args.flat.now.symbols c.args.flat.now.rules c.args.flat.now.shapes c.args.written.now c.args.draft.now c.args.at c.requires.walk (λ shape among is. (c.requires.list shape among is).0))

pub returns-clause-closed : goal.returns-clause-closed
returns-clause-closed c = closed_list c.args.flat.now.symbols c.args.flat.now.rules c.args.flat.now.shapes c.args.written.now c.args.draft.now c.args.at c.requires.walk (λ shape among is. (c.requires.list shape among is).0)
    c.requires.all_met c.args.cells.now.end (λ shape among is. (c.requires.list shape among is).1.1) c.add.new.draft.flat c.add.new.draft.node_of (_, _, c.in_ok-add.ensures.added) c.in_ok-add.ensures.nodes

pub line-requires : goal.line-requires
line-requires c = inside c.args.flat.now.symbols c.args.flat.now.rules c.args.flat.now.shapes c.args.written.now c.args.draft.now c.args.at c.requires.walk

pub column-requires : goal.column-requires
column-requires c = inside c.args.flat.now.symbols c.args.flat.now.rules c.args.flat.now.shapes c.args.written.now c.args.draft.now c.args.at c.requires.walk

pub returns-clause-placed : goal.returns-clause-placed
returns-clause-placed c = c.in_ok-add.ensures.placed c.args.written.now c.requires.placed c.line.ensures c.column.ensures
