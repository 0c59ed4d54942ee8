use Rattle.tree_flattener.proofs.FormLemmas.{form_inside, form_is}
use Rattle.tree_flattener.proofs.walk.form_at.Goals as goal

pub bounds-forms-rule : goal.bounds-forms-rule
bounds-forms-rule c = form_inside c.args.flat.now.symbols c.args.flat.now.rules c.args.flat.now.shapes c.args.written.now c.args.forms.now c.requires.forms c.args.n c.rule.result.0 c.rule.ensures c.requires.suits c.requires.inside

pub returns : goal.returns
returns c = form_is c.args.flat.now.symbols c.args.flat.now.rules c.args.flat.now.shapes c.args.written.now c.args.forms.now c.requires.forms c.args.n c.rule.result.0 c.rule.ensures c.index-forms-rule.result c.index-forms-rule.is
