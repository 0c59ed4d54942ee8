use Rattle.std.proofs.Common.{refl, ◌∙◌, ap, subst, arith, ℕ, ◌+◌, ◌≡◌, Some, None}
use Rattle.std.proofs.Common.{length}
use Rattle.lido_base.specs.Tree.{with_node}
use Rattle.tree_reader.specs.Asking.{asked, shape_at}
use Rattle.flat_grammar.specs.declared.flat.Shape.{Shape}
use Rattle.tree_store.proofs.GrowthLemmas.{length-with_node, open_in}
use Rattle.tree_reader.specs.WrittenTrees.{node_fault, own}
use Rattle.tree_reader.specs.declared.part.Coordinates.{Coordinates}
use Rattle.tree_reader.specs.Writing.{StopsAt}
use Rattle.tree_reader.proofs.Written.{written_node, stopped_node, written_grown, fails_as}
use Rattle.tree_reader.proofs.writer.write_node.Goals as goal

pub returns-in-Err-clause-refused : goal.returns-in-Err-clause-refused
returns-in-Err-clause-refused c = λ texts gains size most more answer written.
    fails_as (node_fault (asked c.args.flat.now.symbols c.args.flat.now.rules c.args.flat.now.shapes c.args.flat.now.root texts) c.args.parent.shape c.args.parent.has (length c.args.tree.now) c.args.at c.args.name_at c.args.name.now) c.in-Err.e (subst (λ (n : ℕ). StopsAt (node_fault (asked c.args.flat.now.symbols c.args.flat.now.rules c.args.flat.now.shapes c.args.flat.now.root texts) c.args.parent.shape c.args.parent.has n c.args.at c.args.name_at c.args.name.now) c.in-Err.e) c.len-count.ensures.count (c.in-Err.ensures.refused texts gains size))
    (λ x stops. stopped_node (asked c.args.flat.now.symbols c.args.flat.now.rules c.args.flat.now.shapes c.args.flat.now.root texts) (length c.args.flat.now.shapes) most c.args.parent c.args.outer.now more answer c.args.strings.now c.args.tree.now c.args.at c.args.name_at c.args.name.now c.args.coordinates x stops written)

pub returns-in-Ok-push-clause-goes : goal.returns-in-Ok-push-clause-goes
returns-in-Ok-push-clause-goes c = λ texts gains size most more answer written.
    written_node (asked c.args.flat.now.symbols c.args.flat.now.rules c.args.flat.now.shapes c.args.flat.now.root texts) (length c.args.flat.now.shapes) most c.args.parent c.args.outer.now more answer
    c.child_shape.new.strings c.args.tree.now c.add_node.new.self c.args.at c.args.name_at c.args.name.now c.args.coordinates (record { node = c.in-Ok-add_node.number.0; shape = c.in-Ok.shape; has = 0 })
    (record { node = c.args.parent.node; shape = c.args.parent.shape; has = c.args.parent.has + 1 }) c.push.new.self c.in-Ok-add_node.ensures.number refl c.in-Ok.ensures.inside refl c.in-Ok-push.ensures.ok
    (c.in-Ok-add_node.ensures.added ∙ ap (λ (s : Shape). with_node c.args.tree.now s.rule.0 (Some c.args.parent.node) c.own_coordinates-own.result.line c.own_coordinates-own.result.column) c.shape_at.ensures
    ∙ ap (λ (d : Coordinates). with_node c.args.tree.now (shape_at c.args.flat.now.shapes c.in-Ok.shape).rule.0 (Some c.args.parent.node) d.line d.column) (c.own_coordinates-own.ensures ∙ ap (own c.args.coordinates) c.coordinates_of.ensures))
    c.in-Ok-add_node.ensures.tree (c.in-Ok.ensures.named texts gains size)
    (subst (λ (n : ℕ). node_fault (asked c.args.flat.now.symbols c.args.flat.now.rules c.args.flat.now.shapes c.args.flat.now.root texts) c.args.parent.shape c.args.parent.has n c.args.at c.args.name_at c.args.name.now ≡ None) c.len-count.ensures.count (c.in-Ok.ensures.fits texts gains size))
    (written_grown c.child_shape.ensures.kept written)

pub returns-in-Ok-push-clause-few_nodes : goal.returns-in-Ok-push-clause-few_nodes
returns-in-Ok-push-clause-few_nodes c = omega (arith, ap length c.in-Ok-add_node.ensures.added, length-with_node c.args.tree.now c.shape_at.result.now.rule.0 (Some c.args.parent.node) c.own_coordinates-own.result.line c.own_coordinates-own.result.column, c.in-Ok.ensures.few, c.len-count.ensures.count)

pub returns-in-Ok-push-clause-count : goal.returns-in-Ok-push-clause-count
returns-in-Ok-push-clause-count c = omega (arith, ap length c.in-Ok-add_node.ensures.added, length-with_node c.args.tree.now c.shape_at.result.now.rule.0 (Some c.args.parent.node) c.own_coordinates-own.result.line c.own_coordinates-own.result.column)

pub coordinates_of-requires : goal.coordinates_of-requires
coordinates_of-requires c = open_in c.args.tree.now (λ some. c.len-count.ensures.tree (omega (arith, some, c.len-count.ensures.count))) c.args.parent.node c.requires.is_open

pub returns-in-Ok-push-clause-read : goal.returns-in-Ok-push-clause-read
returns-in-Ok-push-clause-read c = c.in-Ok.ensures.read c.args.coordinates
