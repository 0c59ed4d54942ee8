use Rattle.std.specs.List.{AllZip}
use Rattle.std.proofs.Common.{◌∙◌, ◌+◌, ℕ, Bool, List, take, ap, sym, subst}
use Rattle.lido_symbols.specs.Numbers.{enumerated}
use Rattle.rule_tables.proofs.PlainLemmas.{zip-more}
use Rattle.chain_expand.specs.declared.walk.Walk.{Walk}
use Rattle.chain_expand.specs.Walks.{IsWalk, has_node_in}
use Rattle.chain_expand.proofs.walks.rule_walks.Goals as goal

pub loop-i-preserved : goal.loop-i-preserved
loop-i-preserved c =
    let rows = c.args.rows.now in
    let needs = c.args.needs.now in
    let rule = c.args.rule.now in
    let es = c.args.forces.now in
    let i = c.loop-i.i in
    let row = c.index-needs-i.result in
    let walk = c.in_ok-chain_walk.field-0 in
    let IsOne = λ (x : ℕ × List Bool) (w : Walk). IsWalk (has_node_in rows rule.right) x.0 x.1 rule es w in
    let is : IsWalk (has_node_in rows rule.right) i row rule es walk =
    subst (λ (b : Bool). IsWalk b i row rule es walk) (c.has_node-inner.ensures ∙ ap (has_node_in rows) c.as_slice.ensures)
    (subst (λ (l : List Bool). IsWalk c.has_node-inner.result i l rule es walk) c.as_slice-in-loop-i.ensures c.in_ok-chain_walk.ensures) in
    subst (AllZip IsOne (enumerated 0 (take (i + 1) needs))) (sym c.in_ok-push.ensures.items)
    (zip-more IsOne needs i row row c.loop-i.walks.items walk c.loop-i-test.true c.index-needs-i.is is c.loop-i.invariant)
