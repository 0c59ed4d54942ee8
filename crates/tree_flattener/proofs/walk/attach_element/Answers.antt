use Rattle.std.proofs.Common.{arith, sym, subst, ap, length}
use Rattle.tree_store.specs.Growth.{IsOpen}
use Rattle.lido_base.specs.Tree.{places}
use Rattle.tree_flattener.proofs.WalkLemmas.{inside, few_in_cell, few_nodes, next_inside, element_is, element_added, cell_added}
use Rattle.tree_flattener.proofs.walk.attach_element.Goals as goal

pub unreachable-requires : goal.unreachable-requires
unreachable-requires c = let h = element_is c.args.flat.now.symbols c.args.flat.now.rules c.args.flat.now.shapes c.args.written.now c.args.draft.now c.args.at c.requires.walk c.args.n c.requires.next c.requires.child (λ shape among is. (c.requires.list shape among is).0) c.args.cells.now.elements (λ shape among is. (c.requires.list shape among is).1.0) c.symbol_of.result c.symbol_of.ensures c.element_rule.result c.element_rule.ensures in c.in_default.not-Some h.0 h.2

pub add-requires-clause-few_items : goal.add-requires-clause-few_items
add-requires-clause-few_items c = omega (arith, few_in_cell c.args.flat.now.symbols c.args.flat.now.rules c.args.flat.now.shapes c.args.written.now c.args.draft.now c.args.at c.requires.walk (λ shape among is. (c.requires.list shape among is).0))

pub rule-requires : goal.rule-requires
rule-requires c = next_inside c.args.flat.now.symbols c.args.flat.now.rules c.args.flat.now.shapes c.args.written.now c.args.draft.now c.args.at c.requires.walk c.args.n c.requires.next c.requires.child

pub add-requires-2-clause-few_nodes : goal.add-requires-2-clause-few_nodes
add-requires-2-clause-few_nodes c = let h = cell_added c.args.flat.now.symbols c.args.flat.now.rules c.args.flat.now.shapes c.args.written.now c.args.draft.now c.args.at c.requires.walk c.args.n c.requires.next c.requires.child c.in-Some.rule.0 c.add.new.draft.flat (_, _, c.in_ok-cell.ensures.added) in omega (arith, h.count, few_nodes c.args.flat.now.symbols c.args.flat.now.rules c.args.flat.now.shapes c.args.written.now c.args.draft.now c.args.at c.requires.walk)

pub add-requires-2-clause-open : goal.add-requires-2-clause-open
add-requires-2-clause-open c = let h = cell_added c.args.flat.now.symbols c.args.flat.now.rules c.args.flat.now.shapes c.args.written.now c.args.draft.now c.args.at c.requires.walk c.args.n c.requires.next c.requires.child c.in-Some.rule.0 c.add.new.draft.flat (_, _, c.in_ok-cell.ensures.added) in subst (IsOpen c.add.new.draft.flat) (sym c.in_ok-cell.ensures.number) h.open_new

pub add-requires-2-clause-few_items : goal.add-requires-2-clause-few_items
add-requires-2-clause-few_items c = let h = cell_added c.args.flat.now.symbols c.args.flat.now.rules c.args.flat.now.shapes c.args.written.now c.args.draft.now c.args.at c.requires.walk c.args.n c.requires.next c.requires.child c.in-Some.rule.0 c.add.new.draft.flat (_, _, c.in_ok-cell.ensures.added) in
    let e = ap (places c.add.new.draft.flat) c.in_ok-cell.ensures.number in omega (arith, e, ap length h.items_new)

pub returns-clause-attached : goal.returns-clause-attached
returns-clause-attached c = element_added c.args.flat.now.symbols c.args.flat.now.rules c.args.flat.now.shapes c.args.written.now c.args.draft.now c.args.at c.requires.walk c.args.n c.requires.next c.requires.child (λ shape among is. (c.requires.list shape among is).0) c.args.cells.now.elements (λ shape among is. (c.requires.list shape among is).1.0) c.symbol_of.result c.symbol_of.ensures c.element_rule.result c.element_rule.ensures
    c.in-Some.rule c.in-Some.is c.add.new.draft.flat c.add-2.new.draft.flat c.add.new.draft.node_of c.add-2.new.draft.node_of c.in_ok-cell.cell c.rule.result.0 c.in_ok-number.number (_, _, c.in_ok-cell.ensures.added) c.in_ok-cell.ensures.nodes c.in_ok-cell.ensures.number c.rule.ensures
    (_, _, c.in_ok-number.ensures.added) c.in_ok-number.ensures.nodes c.in_ok-number.ensures.number

pub line-line-requires : goal.line-line-requires
line-line-requires c = inside c.args.flat.now.symbols c.args.flat.now.rules c.args.flat.now.shapes c.args.written.now c.args.draft.now c.args.at c.requires.walk

pub column-column-requires : goal.column-column-requires
column-column-requires c = inside c.args.flat.now.symbols c.args.flat.now.rules c.args.flat.now.shapes c.args.written.now c.args.draft.now c.args.at c.requires.walk

pub line-own_line-requires : goal.line-own_line-requires
line-own_line-requires c = next_inside c.args.flat.now.symbols c.args.flat.now.rules c.args.flat.now.shapes c.args.written.now c.args.draft.now c.args.at c.requires.walk c.args.n c.requires.next c.requires.child

pub column-own_column-requires : goal.column-own_column-requires
column-own_column-requires c = next_inside c.args.flat.now.symbols c.args.flat.now.rules c.args.flat.now.shapes c.args.written.now c.args.draft.now c.args.at c.requires.walk c.args.n c.requires.next c.requires.child

pub returns-clause-placed : goal.returns-clause-placed
returns-clause-placed c = c.in_ok-number.ensures.placed c.args.written.now (c.in_ok-cell.ensures.placed c.args.written.now c.requires.placed c.line-line.ensures c.column-column.ensures) c.line-own_line.ensures c.column-own_column.ensures
