use Rattle.std.proofs.Common.{◌≡◌}
use Rattle.std.specs.Prelude.{IsTrue}
use Rattle.lido_syntax.specs.declared.spec.Name.{Name}
use Rattle.lido_syntax.specs.Production.{name_of}
use Rattle.kind_clashes.specs.Least.{IsFirst}
use Rattle.kind_clashes.specs.Names.{has}
use Rattle.kind_clashes.proofs.LeastLemmas.{AmongFirst}
use Rattle.kind_clashes.proofs.names.least_in.Given as goal

-- the least place among the names so far. (`among` are those that are looked at, `names` the set.)
abbrev pub invariant-loop-name : goal.invariant-loop-name
invariant-loop-name l = IsFirst (AmongFirst (λ (x : Name) at. IsTrue (has l.names (name_of x)) × (at ≡ x.at)) l.among l.name-index) l.least
