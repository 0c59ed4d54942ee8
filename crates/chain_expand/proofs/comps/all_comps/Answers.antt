use Rattle.std.proofs.Common.{◌∙◌, ℕ, List, [], ap}
use Rattle.flat_grammar.specs.declared.flat.FlatRule.{FlatRule}
use Rattle.chain_expand.specs.Comps.{rule_comps, walks_at}
use Rattle.chain_expand.specs.declared.walk.Walk.{Walk}
use Rattle.need_graphs.proofs.ListLemmas.{numbered-more}
use Rattle.chain_expand.proofs.comps.all_comps.Goals as goal

pub loop-k-preserved : goal.loop-k-preserved
loop-k-preserved c =
    let k = c.loop-k.k in
    let rule = c.index-plain-k.result in
    let walks = c.args.walks.now in
    numbered-more (λ (x : ℕ × FlatRule). rule_comps (walks_at walks x.0) x) c.args.plain.now k rule [] c.loop-k.comps.items c.push_rule.new.comps.items (rule_comps c.walks_at.result.now (k, rule))
    c.loop-k-test.true c.loop-k.invariant c.in_ok-push_rule.ensures
    (ap (λ (ws : List Walk). rule_comps ws (k, rule)) c.walks_at.ensures ∙ ap (λ (r : FlatRule). rule_comps (walks_at walks k) (k, r)) c.index-plain-k.is)
