use Rattle.std.specs.List.{AllZip}
use Rattle.std.proofs.Common.{◌+◌, ℕ, List, take, sym, subst}
use Rattle.lido_symbols.specs.Numbers.{enumerated}
use Rattle.flat_grammar.specs.declared.flat.FlatRule.{FlatRule}
use Rattle.need_graphs.specs.Users.{entries_at}
use Rattle.rule_tables.specs.declared.forced.Force.{Force}
use Rattle.rule_tables.proofs.PlainLemmas.{zip-more}
use Rattle.chain_expand.specs.declared.walk.Walk.{Walk}
use Rattle.chain_expand.specs.Walks.{AreWalks}
use Rattle.chain_expand.proofs.walks.all_walks.Goals as goal

pub loop-k-preserved : goal.loop-k-preserved
loop-k-preserved c =
    let rows = c.as_slice-rows.result.now in
    let plain = c.as_slice-plain.result.now in
    let comps = c.as_slice-comps.result.now in
    let needs = c.args.needs.now in
    let k = c.loop-k.k in
    let rule = c.index-plain-k.result in
    let walks = c.in_ok-rule_walks.field-0 in
    let AreThose = λ (x : ℕ × FlatRule) (ws : List Walk). AreWalks rows needs x.1 (entries_at comps x.0) ws in
    subst (AllZip AreThose (enumerated 0 (take (k + 1) plain))) (sym c.in_ok-push.ensures.items)
    (zip-more AreThose plain k rule rule c.loop-k.all.items walks c.loop-k-test.true c.index-plain-k.is
    (subst (λ (es : List Force). AreWalks rows needs rule es walks) c.forces_at.ensures c.in_ok-rule_walks.ensures) c.loop-k.invariant)
