use Rattle.std.proofs.Common.{arith, ap, ◌∙◌, length, ◌<◌}
use Rattle.std.proofs.Math.ListN.{length-set}
use Rattle.std.proofs.lemmas.Option.{slice_get_within}
use Rattle.flat_grammar.proofs.Lists.{contains-slice_get}
use Rattle.tree_flattener.proofs.ShapeLemmas.{shape_rule}
use Rattle.tree_flattener.proofs.TableLemmas.{item_at, form_step, forms_done}
use Rattle.tree_flattener.proofs.forms.forms.Goals as goal

pub form_of-requires : goal.form_of-requires
form_of-requires c = (contains-slice_get c.args.flat.now.shapes c.loop-k.k c.shape-item.result (item_at c.as_slice-shape-items.result.now c.args.flat.now.shapes c.loop-k.k c.shape-item.result c.as_slice-shape-items.ensures c.loop-k-test.true c.shape-item.is))

pub index_mut-requires : goal.index_mut-requires
index_mut-requires c = let flat = c.args.flat.now in let rule = shape_rule flat.symbols flat.rules flat.shapes flat.root flat.well_formed c.shape-item.result (contains-slice_get c.args.flat.now.shapes c.loop-k.k c.shape-item.result (item_at c.as_slice-shape-items.result.now c.args.flat.now.shapes c.loop-k.k c.shape-item.result c.as_slice-shape-items.ensures c.loop-k-test.true c.shape-item.is)) in let low = slice_get_within flat.rules c.shape-item.result.rule.0 rule.0 rule.1 in omega (arith, c.loop-k.forms.ok.0, c.loop-k.invariant.each)

pub loop-k-preserved : goal.loop-k-preserved
loop-k-preserved c = let flat = c.args.flat.now in let rule = shape_rule flat.symbols flat.rules flat.shapes flat.root flat.well_formed c.shape-item.result (contains-slice_get c.args.flat.now.shapes c.loop-k.k c.shape-item.result (item_at c.as_slice-shape-items.result.now c.args.flat.now.shapes c.loop-k.k c.shape-item.result c.as_slice-shape-items.ensures c.loop-k-test.true c.shape-item.is)) in let low = slice_get_within flat.rules c.shape-item.result.rule.0 rule.0 rule.1 in
    let here : c.shape-item.result.rule.0 < length c.loop-k.forms.items = omega (arith, c.loop-k.invariant.each) in
    record {
      each = length-set c.loop-k.forms.items c.shape-item.result.rule.0 c.in_ok-form.form ∙ c.loop-k.invariant.each;
      first = form_step flat.symbols flat.rules flat.shapes flat.root flat.well_formed c.loop-k.forms.items c.loop-k.k c.loop-k.invariant.first c.shape-item.result (item_at c.as_slice-shape-items.result.now c.args.flat.now.shapes c.loop-k.k c.shape-item.result c.as_slice-shape-items.ensures c.loop-k-test.true c.shape-item.is) here c.in_ok-form.form c.in_ok-form.ensures;
    }

pub returns : goal.returns
returns c = forms_done c.args.flat.now.symbols c.args.flat.now.rules c.args.flat.now.shapes c.loop-k.forms.items c.loop-k.k (omega (arith, ap length c.as_slice-shape-items.ensures, c.loop-k-test.false)) c.loop-k.invariant.first
