use Rattle.kind_clashes.specs.Least.{IsFirst}
use Rattle.kind_clashes.proofs.LeastLemmas.{AmongFirst}
use Rattle.table_faults.specs.Unknown.{IsForeignComp}
use Rattle.table_faults.proofs.unknown.foreign_in_body.Given as goal

-- the least place so far
abbrev pub invariant-loop-comp : goal.invariant-loop-comp
invariant-loop-comp l = IsFirst (AmongFirst (IsForeignComp l.strings l.rule) l.body l.comp-index) l.least
