use Rattle.std.proofs.Common.{refl, sym, ◌∙◌, ap, [], None}
use Rattle.std.proofs.Common.{length}
use Rattle.lido_base.specs.Tree.{Tree, with_node}
use Rattle.lido_base.specs.declared.value.Value.{Value}
use Rattle.flat_grammar.specs.declared.flat.Shape.{Shape}
use Rattle.tree_reader.specs.Asking.{asked, may_be_root, shape_at}
use Rattle.tree_reader.specs.declared.part.Coordinates.{Coordinates}
use Rattle.tree_reader.proofs.Written.{first_written}
use Rattle.tree_reader.proofs.writer.first_node.Goals as goal

pub returns-in-Ok-add_node-clause-goes : goal.returns-in-Ok-add_node-clause-goes
returns-in-Ok-add_node-clause-goes c = λ texts gains size below end.
    first_written (asked c.args.flat.now.symbols c.args.flat.now.rules c.args.flat.now.shapes c.args.flat.now.root texts) c.find_named.new.strings c.add_node.new.self (length c.args.flat.now.shapes) c.args.name_at c.args.name.now c.args.coordinates
    (record { node = c.in-Ok-add_node.number.0; shape = c.in-Ok-Some.shape; has = 0 }) below end
    (c.in-Ok-add_node.ensures.added ∙ ap (λ (t : Tree Value). with_node t c.shape_at-2.result.now.rule.0 None c.own_coordinates-own.result.line c.own_coordinates-own.result.column) c.in-Ok.ensures
    ∙ ap (λ (s : Shape). with_node [] s.rule.0 None c.own_coordinates-own.result.line c.own_coordinates-own.result.column) c.shape_at-2.ensures
    ∙ ap (λ (d : Coordinates). with_node [] (shape_at c.args.flat.now.shapes c.in-Ok-Some.shape).rule.0 None d.line d.column) c.own_coordinates-own.ensures)
    c.in-Ok-add_node.ensures.tree (c.in-Ok-add_node.ensures.number ∙ ap length c.in-Ok.ensures) refl (rw c.in-Ok-Some.field-0-is at c.in-Ok-Some.ensures.inside)
    (sym (c.in-Ok-Some.ensures.found texts gains size) ∙ c.in-Ok-Some.field-0-is)
    (ap (λ (s : Shape). may_be_root c.args.flat.now.symbols c.args.flat.now.rules c.args.flat.now.shapes c.args.flat.now.root s) (sym c.shape_at.ensures) ∙ sym c.may_be_root.ensures ∙ c.if-not-may_be_root.false)
