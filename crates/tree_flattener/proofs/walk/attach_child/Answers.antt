use Rattle.std.proofs.Common.{arith, length, ◌-◌}
use Rattle.lido_base.specs.Tree.{items_of}
use Rattle.tree_flattener.proofs.WalkLemmas.{few_in_plain, inside, next_inside, place_next, place_forward, child_added, few_items}
use Rattle.tree_flattener.proofs.StepLemmas.{items_of_tail}
use Rattle.tree_flattener.proofs.walk.attach_child.Goals as goal

pub add_terminals-requires-clause-terminals : goal.add_terminals-requires-clause-terminals
add_terminals-requires-clause-terminals c = λ k low high. place_next c.args.flat.now.symbols c.args.flat.now.rules c.args.flat.now.shapes c.args.written.now c.args.draft.now c.args.at c.requires.walk c.args.n c.requires.next c.requires.child k low (omega (arith, c.place-place.ensures.place))

pub add_terminals-requires-clause-few : goal.add_terminals-requires-clause-few
add_terminals-requires-clause-few c = few_in_plain c.args.flat.now.symbols c.args.flat.now.rules c.args.flat.now.shapes c.args.written.now c.args.draft.now c.args.at c.requires.walk c.requires.plain

pub add_terminals-requires-clause-forward : goal.add_terminals-requires-clause-forward
add_terminals-requires-clause-forward c = omega (arith, c.place-place.ensures.place, place_forward c.args.flat.now.symbols c.args.flat.now.rules c.args.flat.now.shapes c.args.written.now c.args.draft.now c.args.at c.requires.walk c.args.n c.requires.next c.requires.child)

pub add_terminals-requires-clause-inside : goal.add_terminals-requires-clause-inside
add_terminals-requires-clause-inside c = inside c.args.flat.now.symbols c.args.flat.now.rules c.args.flat.now.shapes c.args.written.now c.args.draft.now c.args.at c.requires.walk

pub rule-requires : goal.rule-requires
rule-requires c = next_inside c.args.flat.now.symbols c.args.flat.now.rules c.args.flat.now.shapes c.args.written.now c.args.draft.now c.args.at c.requires.walk c.args.n c.requires.next c.requires.child

pub add-requires-clause-few_items : goal.add-requires-clause-few_items
add-requires-clause-few_items c =
    let flat = c.args.flat.now in
    let s = c.args.draft.now in
    let h = few_items c.args.flat.now.symbols c.args.flat.now.rules c.args.flat.now.shapes c.args.written.now c.add_terminals.new.draft.flat c.add_terminals.new.draft.node_of c.args.at.tail (c.place-place.result - 1) (items_of c.args.written.now c.args.at.node)
    (c.in_ok-add_terminals.ensures.items flat.symbols flat.rules flat.shapes (items_of_tail flat.symbols flat.rules flat.shapes c.args.written.now c.requires.walk.suits s.flat s.node_of s.flat_of (length s.flat_of) c.args.at.node c.args.at.tail c.args.at.done c.requires.walk.draft c.requires.walk.within c.requires.plain)) in omega (arith, h, c.place-place.type_inv)

pub returns-clause-attached : goal.returns-clause-attached
returns-clause-attached c =
    let flat = c.args.flat.now in
    let s = c.args.draft.now in
    child_added c.args.flat.now.symbols c.args.flat.now.rules c.args.flat.now.shapes c.args.written.now c.args.draft.now c.args.at c.requires.walk c.args.n c.requires.next c.requires.child c.requires.plain c.rule.result.0 c.rule.ensures c.place-place.result c.place-place.ensures.place c.add_terminals.new.draft.flat c.add.new.draft.flat c.add_terminals.new.draft.node_of c.add.new.draft.node_of c.in_ok-number.number
    c.in_ok-add_terminals.ensures.filled c.add_terminals.ensures.nodes (c.in_ok-add_terminals.ensures.items flat.symbols flat.rules flat.shapes (items_of_tail flat.symbols flat.rules flat.shapes c.args.written.now c.requires.walk.suits s.flat s.node_of s.flat_of (length s.flat_of) c.args.at.node c.args.at.tail c.args.at.done c.requires.walk.draft c.requires.walk.within c.requires.plain))
    (_, _, c.in_ok-number.ensures.added) c.in_ok-number.ensures.nodes c.in_ok-number.ensures.number

pub line-line-requires : goal.line-line-requires
line-line-requires c = next_inside c.args.flat.now.symbols c.args.flat.now.rules c.args.flat.now.shapes c.args.written.now c.args.draft.now c.args.at c.requires.walk c.args.n c.requires.next c.requires.child

pub column-column-requires : goal.column-column-requires
column-column-requires c = next_inside c.args.flat.now.symbols c.args.flat.now.rules c.args.flat.now.shapes c.args.written.now c.args.draft.now c.args.at c.requires.walk c.args.n c.requires.next c.requires.child

pub returns-clause-placed : goal.returns-clause-placed
returns-clause-placed c = c.in_ok-number.ensures.placed c.args.written.now c.in_ok-add_terminals.ensures.placed c.line-line.ensures c.column-column.ensures
