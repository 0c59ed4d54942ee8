use Rattle.std.proofs.Common.{ap, ◌∙◌, None}
use Rattle.lido_base.specs.Tree.{with_node}
use Rattle.tree_flattener.proofs.PlacedLemmas.{placed_first}
use Rattle.tree_flattener.proofs.WalkLemmas.{first_walk}
use Rattle.tree_flattener.proofs.flatten_tree.first.Goals as goal

pub returns-clause-walk : goal.returns-clause-walk
returns-clause-walk c = first_walk c.args.flat.now.symbols c.args.flat.now.rules c.args.flat.now.shapes c.args.written.now c.requires.suits c.requires.few
    (record { flat = c.add_node.new.self; node_of = c.from_vec-node_of.result; flat_of = c.from_vec-flat_of.result }) c.rule.result.0 c.rule.ensures
    (_, _, c.in_ok-add_node.ensures.added ∙ ap (λ t. with_node t c.rule.result.0 None c.line.result c.column.result) c.in_ok-tree.ensures) c.in_ok-add_node.ensures.tree (c.from_vec-node_of.ensures ∙ c.in_ok-vec.ensures.items) (c.from_vec-flat_of.ensures ∙ c.in_ok-vec-2.ensures.items)

pub returns-clause-placed : goal.returns-clause-placed
returns-clause-placed c = placed_first c.args.written.now c.add_node.new.self c.from_vec-node_of.result c.rule.result.0 c.line.result c.column.result
    (c.in_ok-add_node.ensures.added ∙ ap (λ t. with_node t c.rule.result.0 None c.line.result c.column.result) c.in_ok-tree.ensures) (c.from_vec-node_of.ensures ∙ c.in_ok-vec.ensures.items) c.line.ensures c.column.ensures
