use Rattle.lido_syntax.specs.declared.spec.Typed1.{Typed1}
use Rattle.kind_clashes.specs.Firsts.{AreFirsts}
use Rattle.kind_clashes.specs.Types.{IsOther}
use Rattle.kind_clashes.proofs.LeastLemmas.{AmongFirst}
use Rattle.kind_clashes.proofs.types.firsts_of_others.Given as goal

-- the first places of those so far
abbrev pub invariant-loop-one : goal.invariant-loop-one
invariant-loop-one l = AreFirsts (λ id. AmongFirst (λ (x : Typed1). IsOther l.ty x id) l.typed l.one-index) l.firsts
