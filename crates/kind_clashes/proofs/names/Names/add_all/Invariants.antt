use Rattle.std.proofs.Common.{◌≡◌}
use Rattle.lido_syntax.specs.declared.spec.Name.{Name}
use Rattle.lido_syntax.specs.Production.{name_of}
use Rattle.kind_clashes.specs.Names.{HasMore}
use Rattle.kind_clashes.proofs.LeastLemmas.{AmongFirst}
use Rattle.kind_clashes.proofs.names.Names.add_all.Given as goal

-- the names so far were added
abbrev pub invariant-loop-name : goal.invariant-loop-name
invariant-loop-name l = HasMore (AmongFirst (λ (x : Name) id. name_of x ≡ id) l.names l.name-index) l.initial.self l.self
