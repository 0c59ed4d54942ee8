use Rattle.kind_clashes.specs.Names.{HasMore}
use Rattle.kind_clashes.proofs.LeastLemmas.{AmongFirst}
use Rattle.table_faults.specs.Doubles.{IsSeen}
use Rattle.table_faults.proofs.doubles.add_seen.Given as goal

-- the names so far
abbrev pub invariant-loop-name : goal.invariant-loop-name
invariant-loop-name l = HasMore (AmongFirst (IsSeen l.seen) l.names l.name-index) l.initial.shared l.shared
