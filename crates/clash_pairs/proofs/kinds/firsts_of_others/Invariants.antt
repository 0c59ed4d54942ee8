use Rattle.clash_pairs.specs.declared.kinds.SaidKind.{SaidKind}
use Rattle.kind_clashes.specs.Firsts.{AreFirsts}
use Rattle.clash_pairs.specs.Kinds.{IsOtherKind}
use Rattle.kind_clashes.proofs.LeastLemmas.{AmongFirst}
use Rattle.clash_pairs.proofs.kinds.firsts_of_others.Given as goal

-- the first places of those so far
abbrev pub invariant-loop-one : goal.invariant-loop-one
invariant-loop-one l = AreFirsts (λ id. AmongFirst (λ (x : SaidKind). IsOtherKind l.kind x id) l.said l.one-index) l.firsts
