use Rattle.std.proofs.Common.{sym, ap, ◌∙◌, refl, subst, arith}
use Rattle.std.specs.Prelude.{IsNone}
use Rattle.lido_base.specs.Tree.{parent_of}
use Rattle.tree_flattener.proofs.WalkLemmas.{number_inside, number_of_root, number_is}
use Rattle.tree_flattener.proofs.walk.around.Goals as goal

pub parent-requires-2 : goal.parent-requires-2
parent-requires-2 c = number_inside c.args.flat.now.symbols c.args.flat.now.rules c.args.flat.now.shapes c.args.written.now c.args.draft.now.flat c.args.draft.now.node_of c.args.draft.now.flat_of c.requires.numbered c.args.at.node c.requires.met c.as_slice.result.now c.as_slice.ensures

pub unreachable-requires-in_default-parent : goal.unreachable-requires-in_default-parent
unreachable-requires-in_default-parent c = let root = number_of_root c.args.flat.now.symbols c.args.flat.now.rules c.args.flat.now.shapes c.args.written.now c.args.draft.now.flat c.args.draft.now.node_of c.args.draft.now.flat_of c.requires.numbered c.args.at.node c.requires.met c.as_slice.result.now c.as_slice.ensures (c.parent-2.ensures.root.0 (subst IsNone (sym c.in_default-parent.is) refl)) in let h = c.requires.inner in omega arith

pub returns-clause-tail : goal.returns-clause-tail
returns-clause-tail c = λ f e. ap (parent_of c.args.draft.now.flat) (sym (number_is c.args.flat.now.symbols c.args.flat.now.rules c.args.flat.now.shapes c.args.written.now c.args.draft.now.flat c.args.draft.now.node_of c.args.draft.now.flat_of c.requires.numbered c.args.at.node c.requires.met c.as_slice.result.now c.as_slice.ensures f e)) ∙ sym c.in-Some-parent.ensures.parent
