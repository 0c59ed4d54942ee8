use Rattle.std.proofs.Common.{◌<◌, ℕ, length, refl, arith}
use Rattle.lido_base.specs.declared.ids.SymId.{SymId}
use Rattle.chain_expand.specs.Comps.{front_comps}
use Rattle.need_graphs.proofs.ListLemmas.{numbered-more}
use Rattle.chain_expand.proofs.comps.push_rule.Goals as goal

pub loop-j-preserved : goal.loop-j-preserved
loop-j-preserved c =
    let right = c.args.rule.now.right in
    let j = c.loop-j.j in
    let none : SymId = record { 0 = 0 } in
    let within : j < length right = omega (arith, c.loop-j-test.true, c.len-j-end.ensures) in
    numbered-more (λ (y : ℕ × SymId). front_comps c.args.number c.args.walks.now y.0) right j none c.push_behind.new.comps.items c.loop-j.comps.items c.push_fronts.new.comps.items (front_comps c.args.number c.args.walks.now j)
    within c.loop-j.invariant c.in_ok-push_fronts.ensures refl
