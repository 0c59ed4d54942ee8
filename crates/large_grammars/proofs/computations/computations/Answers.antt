use Rattle.std.proofs.Common.{◌≡◌, ◌+◌, List, subst, sym, arith}
use Rattle.flat_grammar.specs.declared.flat.FlatComp.{FlatComp}
use Rattle.large_grammars.specs.Sizes.{AreBefore}
use Rattle.large_grammars.proofs.computations.computations.Goals as goal

pub returns : goal.returns
returns c =
    let e : c.loop-k.k ≡ 1 + c.args.size.children = omega (arith, c.loop-k-test.false, c.loop-k.auto.k-end) in
    subst (λ (comps : List FlatComp). AreBefore c.args.size (1 + c.args.size.children) 0 comps) (sym c.from_vec.ensures) (subst (λ n. AreBefore c.args.size n 0 c.loop-k.comps.items) e c.loop-k.invariant)
