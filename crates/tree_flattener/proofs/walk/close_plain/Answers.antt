use Rattle.std.proofs.Common.{arith, length}
use Rattle.tree_flattener.proofs.WalkLemmas.{few_in_plain, plain_few, width_is, closed_plain, terminals_left, inside}
use Rattle.tree_flattener.proofs.StepLemmas.{items_of_tail}
use Rattle.tree_flattener.proofs.walk.close_plain.Goals as goal

pub overflow_cast-width : goal.overflow_cast-width
overflow_cast-width c = omega (arith, width_is c.args.flat.now.symbols c.args.flat.now.rules c.args.flat.now.shapes c.args.written.now c.args.draft.now c.args.at c.requires.walk (λ shape among is. (c.requires.plain shape among is).0) c.args.width (λ shape among is. (c.requires.plain shape among is).1), plain_few c.args.flat.now.symbols c.args.flat.now.rules c.args.flat.now.shapes c.args.written.now c.args.draft.now c.args.at c.requires.walk (λ shape among is. (c.requires.plain shape among is).0))

pub add_terminals-requires-clause-terminals : goal.add_terminals-requires-clause-terminals
add_terminals-requires-clause-terminals c = λ k low high. terminals_left c.args.flat.now.symbols c.args.flat.now.rules c.args.flat.now.shapes c.args.written.now c.args.draft.now c.args.at c.requires.walk c.requires.all_met k low (omega (arith, width_is c.args.flat.now.symbols c.args.flat.now.rules c.args.flat.now.shapes c.args.written.now c.args.draft.now c.args.at c.requires.walk (λ shape among is. (c.requires.plain shape among is).0) c.args.width (λ shape among is. (c.requires.plain shape among is).1)))

pub add_terminals-requires-clause-few : goal.add_terminals-requires-clause-few
add_terminals-requires-clause-few c = few_in_plain c.args.flat.now.symbols c.args.flat.now.rules c.args.flat.now.shapes c.args.written.now c.args.draft.now c.args.at c.requires.walk (λ shape among is. (c.requires.plain shape among is).0)

pub add_terminals-requires-clause-room : goal.add_terminals-requires-clause-room
add_terminals-requires-clause-room c = omega (arith, width_is c.args.flat.now.symbols c.args.flat.now.rules c.args.flat.now.shapes c.args.written.now c.args.draft.now c.args.at c.requires.walk (λ shape among is. (c.requires.plain shape among is).0) c.args.width (λ shape among is. (c.requires.plain shape among is).1), plain_few c.args.flat.now.symbols c.args.flat.now.rules c.args.flat.now.shapes c.args.written.now c.args.draft.now c.args.at c.requires.walk (λ shape among is. (c.requires.plain shape among is).0))

pub add_terminals-requires-clause-forward : goal.add_terminals-requires-clause-forward
add_terminals-requires-clause-forward c = let h = c.requires.walk.draft.reach in omega (arith, width_is c.args.flat.now.symbols c.args.flat.now.rules c.args.flat.now.shapes c.args.written.now c.args.draft.now c.args.at c.requires.walk (λ shape among is. (c.requires.plain shape among is).0) c.args.width (λ shape among is. (c.requires.plain shape among is).1))

pub add_terminals-requires-clause-inside : goal.add_terminals-requires-clause-inside
add_terminals-requires-clause-inside c = inside c.args.flat.now.symbols c.args.flat.now.rules c.args.flat.now.shapes c.args.written.now c.args.draft.now c.args.at c.requires.walk

pub returns-clause-closed : goal.returns-clause-closed
returns-clause-closed c =
    let flat = c.args.flat.now in
    let s = c.args.draft.now in
    closed_plain c.args.flat.now.symbols c.args.flat.now.rules c.args.flat.now.shapes c.args.written.now c.args.draft.now c.args.at c.requires.walk (λ shape among is. (c.requires.plain shape among is).0) c.args.width (width_is c.args.flat.now.symbols c.args.flat.now.rules c.args.flat.now.shapes c.args.written.now c.args.draft.now c.args.at c.requires.walk (λ shape among is. (c.requires.plain shape among is).0) c.args.width (λ shape among is. (c.requires.plain shape among is).1)) c.add_terminals.new.draft.flat c.add_terminals.new.draft.node_of c.in_ok-add_terminals.ensures.filled c.add_terminals.ensures.nodes
    (c.in_ok-add_terminals.ensures.items flat.symbols flat.rules flat.shapes (items_of_tail flat.symbols flat.rules flat.shapes c.args.written.now c.requires.walk.suits s.flat s.node_of s.flat_of (length s.flat_of) c.args.at.node c.args.at.tail c.args.at.done c.requires.walk.draft c.requires.walk.within (λ shape among is. (c.requires.plain shape among is).0)))
