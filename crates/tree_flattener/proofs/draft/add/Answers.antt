use Rattle.tree_flattener.proofs.PlacedLemmas.{placed_node}
use Rattle.tree_flattener.proofs.draft.add.Goals as goal

pub returns-clause-placed : goal.returns-clause-placed
returns-clause-placed c = λ W placed line column. placed_node W c.args.draft.now.flat c.add_node.new.self c.args.draft.now.node_of c.push.new.self c.args.rule.0 c.args.parent c.args.line c.args.column c.args.of
    c.in_ok-number.ensures.added c.in_ok-push.ensures.ok placed line column
