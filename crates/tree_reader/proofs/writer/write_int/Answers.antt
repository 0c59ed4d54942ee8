use Rattle.std.proofs.Common.{◌∙◌, ap, ℤ, []}
use Rattle.std.proofs.Common.{length}
use Rattle.std.specs.Int.{w64}
use Rattle.std.proofs.lemmas.Int.{to_z-of_z}
use Rattle.lido_base.specs.Tree.{Leaf, with_item}
use Rattle.lido_base.specs.declared.value.Value.TheVariants as value
use Rattle.lido_base.specs.declared.value.ValueType.TheVariants as type
use Rattle.tree_reader.specs.Asking.{asked}
use Rattle.tree_reader.proofs.Written.{written_int, stopped_int, fails_if, ok_of, err_of}
use Rattle.tree_reader.proofs.writer.write_int.Goals as goal

pub returns-clause-goes : goal.returns-clause-goes
returns-clause-goes c = ok_of c.add_leaf.result c.add_leaf.ensures.grown c.add_leaf.ensures.added c.add_leaf.ensures.tree c.add_leaf.ensures.taken
    (λ now is added tree taken names texts most outer more answer written.
    written_int (asked c.args.flat.now.symbols c.args.flat.now.rules c.args.flat.now.shapes c.args.flat.now.root names) (length c.args.flat.now.shapes) most c.args.parent outer more answer texts c.args.tree.now c.add_leaf.new.tree c.args.at c.args.value now is (taken names)
    (added ∙ ap (λ (z : ℤ). with_item c.args.tree.now c.args.parent.node (Leaf (value.Int z))) (to_z-of_z w64 c.args.value c.ranges.value)) tree written)

pub returns-clause-refused : goal.returns-clause-refused
returns-clause-refused c = err_of c.add_leaf.result [] c.add_leaf.ensures.refused
    (λ e refused names texts most outer more answer written. fails_if ((asked c.args.flat.now.symbols c.args.flat.now.rules c.args.flat.now.shapes c.args.flat.now.root names).takes_value c.args.parent.shape c.args.parent.has type.Int) c.args.at e (refused names)
    (λ fails. stopped_int (asked c.args.flat.now.symbols c.args.flat.now.rules c.args.flat.now.shapes c.args.flat.now.root names) (length c.args.flat.now.shapes) most c.args.parent outer more answer texts c.args.tree.now c.args.at c.args.value fails written))

pub returns-clause-count : goal.returns-clause-count
returns-clause-count c = c.add_leaf.ensures.count
