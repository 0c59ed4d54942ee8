use Rattle.std.proofs.Common.{◌≡◌}
use Rattle.lido_syntax.specs.declared.spec.Decl.{Decl}
use Rattle.kind_clashes.specs.Least.{IsFirst}
use Rattle.kind_clashes.proofs.LeastLemmas.{AmongFirst}
use Rattle.kind_clashes.proofs.items.least_declared.Given as goal

-- the least place so far
abbrev pub invariant-loop-decl : goal.invariant-loop-decl
invariant-loop-decl l = IsFirst (AmongFirst (λ (d : Decl) at. at ≡ d.attr.at) l.decls l.decl-index) l.least
