use Rattle.lido_syntax.specs.declared.spec.Name.{Name}
use Rattle.kind_clashes.specs.Firsts.{AreFirsts, IsAt}
use Rattle.kind_clashes.proofs.LeastLemmas.{AmongFirst}
use Rattle.kind_clashes.proofs.firsts.firsts_of.Given as goal

-- the first places of the names so far
abbrev pub invariant-loop-name : goal.invariant-loop-name
invariant-loop-name l = AreFirsts (λ id. AmongFirst (λ (x : Name). IsAt x id) l.names l.name-index) l.firsts
