use Rattle.std.proofs.Common.{◌≡◌, ◌++◌, take}
use Rattle.table_faults.specs.Doubles.{all_in_body}
use Rattle.table_faults.proofs.doubles.note_body.Given as goal

-- the computations so far
abbrev pub invariant-loop-comp : goal.invariant-loop-comp
invariant-loop-comp l = l.all.items ≡ l.initial.all.items ++ all_in_body l.symbol.0 (take l.comp-index l.body)
