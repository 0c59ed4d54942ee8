use Rattle.std.proofs.Common.{[], ap}
use Rattle.flat_grammar.specs.declared.flat.FlatRule.{FlatRule}
use Rattle.need_graphs.proofs.ListLemmas.{numbered-more}
use Rattle.including_expand.specs.Extras.{rule_comps}
use Rattle.including_expand.proofs.extras.all_comps.Goals as goal

pub loop-k-preserved : goal.loop-k-preserved
loop-k-preserved c =
    let k = c.loop-k.k in
    let rule = c.index-plain-k.result in
    let its = rule_comps c.args.needs.now c.args.sets.now in
    numbered-more its c.args.plain.now k rule [] c.loop-k.comps.items c.push_rule.new.comps.items (its (k, rule))
    c.loop-k-test.true c.loop-k.invariant c.in_ok-push_rule.ensures (ap (λ (r : FlatRule). its (k, r)) c.index-plain-k.is)
