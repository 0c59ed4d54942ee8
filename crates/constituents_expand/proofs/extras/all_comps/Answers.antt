use Rattle.std.proofs.Common.{◌∙◌, ℕ, Bool, [], ap}
use Rattle.flat_grammar.specs.declared.flat.FlatRule.{FlatRule}
use Rattle.constituents_expand.specs.Extras.{rule_comps, is_whole}
use Rattle.need_graphs.proofs.ListLemmas.{numbered-more}
use Rattle.constituents_expand.proofs.extras.all_comps.Goals as goal

pub loop-k-preserved : goal.loop-k-preserved
loop-k-preserved c =
    let k = c.loop-k.k in
    let rule = c.index-plain-k.result in
    let gs = c.args.gatherings.now in
    let rules = c.args.rules.now in
    numbered-more (λ (x : ℕ × FlatRule). rule_comps gs (is_whole rules x.0) x) c.args.plain.now k rule [] c.loop-k.comps.items c.push_rule.new.comps.items (rule_comps gs c.is_whole.result (k, rule))
    c.loop-k-test.true c.loop-k.invariant c.in_ok-push_rule.ensures
    (ap (λ (b : Bool). rule_comps gs b (k, rule)) c.is_whole.ensures ∙ ap (λ (r : FlatRule). rule_comps gs (is_whole rules k) (k, r)) c.index-plain-k.is)
