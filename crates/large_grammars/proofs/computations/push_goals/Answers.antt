use Rattle.std.proofs.Common.{◌≡◌, subst, arith}
use Rattle.large_grammars.specs.Sizes.{AreBefore}
use Rattle.large_grammars.proofs.ComputationLemmas.{before-next}
use Rattle.large_grammars.proofs.computations.push_goals.Goals as goal

pub returns : goal.returns
returns c =
    let e : c.loop-a.a ≡ c.args.size.attributes = omega (arith, c.loop-a-test.false, c.loop-a.auto.a-end) in
    before-next c.args.size c.args.k c.loop-a.comps.items (subst (λ n. AreBefore c.args.size c.args.k n c.loop-a.comps.items) e c.loop-a.invariant)
