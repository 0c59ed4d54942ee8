use Rattle.std.proofs.Common.{arith, sym, subst, ap, ◌∙◌, length}
use Rattle.tree_flattener.specs.Forms.{AreForms}
use Rattle.lido_base.proofs.PathLemmas.{root_on_path}
use Rattle.tree_flattener.proofs.WalkLemmas.{inside, child_inside, flat_tree_closed, numbered_closed, all_inside}
use Rattle.tree_flattener.proofs.flatten_tree.flat_tree.Goals as goal

pub attach_all-requires-clause-forms : goal.attach_all-requires-clause-forms
attach_all-requires-clause-forms c = subst (AreForms c.args.flat.now.symbols c.args.flat.now.rules c.args.flat.now.shapes) (sym c.as_slice-forms.ensures.value) c.in_ok-forms.ensures

pub climb-requires-clause-forms : goal.climb-requires-clause-forms
climb-requires-clause-forms c = subst (AreForms c.args.flat.now.symbols c.args.flat.now.rules c.args.flat.now.shapes) (sym c.as_slice-forms.ensures.value) c.in_ok-forms.ensures

pub close-requires-clause-forms : goal.close-requires-clause-forms
close-requires-clause-forms c = subst (AreForms c.args.flat.now.symbols c.args.flat.now.rules c.args.flat.now.shapes) (sym c.as_slice-forms.ensures.value) c.in_ok-forms.ensures

pub climb-requires-clause-around : goal.climb-requires-clause-around
climb-requires-clause-around c = root_on_path c.args.written.now c.requires.suits.tree c.in_ok-last.last.node (inside c.args.flat.now.symbols c.args.flat.now.rules c.args.flat.now.shapes c.args.written.now c.attach_all.new.draft c.in_ok-last.last c.in_ok-last.ensures.walk)

pub climb-requires-clause-all_met : goal.climb-requires-clause-all_met
climb-requires-clause-all_met c = λ m path above k d at. let h = child_inside c.args.written.now c.requires.suits.tree m k d at in omega (arith, c.in_ok-last.ensures.all)

pub close-requires-clause-all_met : goal.close-requires-clause-all_met
close-requires-clause-all_met c = λ k d at. let h = child_inside c.args.written.now c.requires.suits.tree c.in_ok-root.root.node k d at in omega (arith, c.in_ok-last.ensures.all, ap length c.climb.ensures.same)

pub returns-clause-flat : goal.returns-clause-flat
returns-clause-flat c = flat_tree_closed c.args.flat.now.symbols c.args.flat.now.rules c.args.flat.now.shapes c.args.written.now c.climb.new.draft c.in_ok-root.root c.in_ok-root.ensures.walk c.close.new.draft.flat c.close.new.draft.node_of c.in_ok-close.ensures.closed c.in_ok-close.ensures.placed c.in_ok-root.ensures.at (ap length c.climb.ensures.same ∙ c.in_ok-last.ensures.all)

pub returns-clause-inside : goal.returns-clause-inside
returns-clause-inside c = all_inside c.args.flat.now.symbols c.args.flat.now.rules c.args.flat.now.shapes c.args.written.now c.close.new.draft.flat c.close.new.draft.node_of c.climb.new.draft.flat_of
    (numbered_closed c.args.flat.now.symbols c.args.flat.now.rules c.args.flat.now.shapes c.args.written.now c.climb.new.draft c.in_ok-root.root c.in_ok-root.ensures.walk c.close.new.draft.flat c.close.new.draft.node_of c.in_ok-close.ensures.closed) (ap length c.climb.ensures.same ∙ c.in_ok-last.ensures.all)
