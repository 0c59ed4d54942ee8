use Rattle.std.proofs.Common.{◌≡◌}
use Rattle.lido_syntax.specs.declared.spec.Typed1.{Typed1}
use Rattle.lido_syntax.specs.Production.{name_of}
use Rattle.kind_clashes.specs.Names.{HasMore}
use Rattle.kind_clashes.proofs.LeastLemmas.{AmongFirst}
use Rattle.kind_clashes.proofs.sets.add_typed.Given as goal

-- the names so far were added
abbrev pub invariant-loop-one : goal.invariant-loop-one
invariant-loop-one l = HasMore (AmongFirst (λ (x : Typed1) s. name_of x.name ≡ s) l.typed l.one-index) l.initial.names l.names
