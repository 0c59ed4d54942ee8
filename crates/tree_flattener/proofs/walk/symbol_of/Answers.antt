use Rattle.tree_flattener.proofs.WalkLemmas.{rule_inside, left_is}
use Rattle.tree_flattener.proofs.walk.symbol_of.Goals as goal

pub bounds-as_slice-rule : goal.bounds-as_slice-rule
bounds-as_slice-rule c = rule_inside c.args.flat.now.symbols c.args.flat.now.rules c.args.flat.now.shapes c.args.written.now c.requires.suits c.args.n c.rule.result.0 c.rule.ensures c.as_slice.result.now c.as_slice.ensures c.requires.inside

pub bounds-as_slice-rule-2 : goal.bounds-as_slice-rule-2
bounds-as_slice-rule-2 c = rule_inside c.args.flat.now.symbols c.args.flat.now.rules c.args.flat.now.shapes c.args.written.now c.requires.suits c.args.n c.rule.result.0 c.rule.ensures c.as_slice.result.now c.as_slice.ensures c.requires.inside

pub returns : goal.returns
returns c = λ r has. left_is c.args.flat.now.symbols c.args.flat.now.rules c.args.flat.now.shapes c.args.written.now c.requires.suits c.args.n c.rule.result.0 c.rule.ensures c.as_slice.result.now c.as_slice.ensures c.index-as_slice-rule.result r has
