use Rattle.std.proofs.Common.{arith, rules, subst, ap, get_or, length, List, ◌≡◌}
use Rattle.flat_grammar.specs.declared.flat.Shape.{Shape}
use Rattle.tree_reader.proofs.Naming.{none_there, one_more_there, all_there}
use Rattle.tree_reader.proofs.names.name_table.Goals as goal

pub loop-k-init : goal.loop-k-init
loop-k-init c = none_there c.args.count c.in_ok-names.names.items (c.in_ok-names.ensures.items_if_clones_equal (λ y given. first_of (search rules, grind arith, cc))) c.args.flat.now.rules

pub loop-k-preserved : goal.loop-k-preserved
loop-k-preserved c = one_more_there c.args.flat.now.rules c.args.flat.now.shapes c.args.count c.loop-k.k c.shape-item.result c.loop-k.names.items c.add_shape.new.names.items (omega (arith, ap length c.as_slice-shape-items.ensures))
    (subst (λ (l : List Shape). c.shape-item.result ≡ get_or l c.loop-k.k c.shape-item.result) c.as_slice-shape-items.ensures c.shape-item.is) c.add_shape.ensures.each c.add_shape.ensures.entries c.loop-k.invariant

pub returns : goal.returns
returns c = all_there c.args.flat.now.rules c.args.flat.now.shapes c.args.count c.loop-k.k c.loop-k.names.items (omega (arith, ap length c.as_slice-shape-items.ensures)) c.loop-k.invariant
