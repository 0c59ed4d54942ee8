use Rattle.std.proofs.Common.{subst, sym, take, ◌+◌}
use Rattle.std.specs.List.{AllZip}
use Rattle.lido_symbols.specs.Numbers.{enumerated}
use Rattle.rule_tables.specs.PlainRules.{IsShapeOf}
use Rattle.rule_tables.proofs.PlainLemmas.{zip-more}
use Rattle.rule_tables.proofs.rule_shapes.shapes.Goals as goal

pub loop-k-preserved : goal.loop-k-preserved
loop-k-preserved c spec =
    let rules = c.args.rules.now in
    let k = c.loop-k.k in
    let IsShape = IsShapeOf spec c.args.symbols.now in
    subst (AllZip IsShape (enumerated 0 (take (k + 1) rules))) (sym c.in_ok-push.ensures.items)
    (zip-more IsShape rules k c.index-rules-k.result c.index-rules-k.result c.loop-k.shapes.items c.in_ok-shape.field-0 c.loop-k-test.true c.index-rules-k.is (c.in_ok-shape.ensures spec) (c.loop-k.invariant spec))
