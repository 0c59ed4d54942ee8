use Rattle.std.proofs.Common.{◌≡◌}
use Rattle.lido_syntax.specs.declared.spec.Name.{Name}
use Rattle.kind_clashes.specs.Least.{IsFirst}
use Rattle.kind_clashes.specs.Firsts.{IsBehind}
use Rattle.kind_clashes.proofs.LeastLemmas.{AmongFirst}
use Rattle.kind_clashes.proofs.firsts.least_behind.Given as goal

-- the least place so far
abbrev pub invariant-loop-name : goal.invariant-loop-name
invariant-loop-name l = IsFirst (AmongFirst (λ (x : Name) at. IsBehind l.firsts x × (at ≡ x.at)) l.names l.name-index) l.least
