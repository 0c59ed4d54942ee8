use Rattle.std.proofs.Common.{sym, ◌∙◌}
use Rattle.tree_flattener.proofs.ShapeLemmas.{end_has_rule}
use Rattle.tree_flattener.proofs.forms.form_of.Goals as goal

pub end_rule-requires : goal.end_rule-requires
end_rule-requires c = let flat = c.args.flat.now in let (k, r, got, left, right) = end_has_rule flat.symbols flat.rules flat.shapes flat.root flat.well_formed c.args.shape.now c.requires c.if-not-shape.false in
    (record { 0 = k }, (r, got, left ∙ sym c.cell_of-cell.ensures, right))
