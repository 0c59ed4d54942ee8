use Rattle.std.proofs.Common.{take}
use Rattle.std.specs.List.{AllZip}
use Rattle.flat_grammar.specs.SoundPlan.{IsRow}
use Rattle.sequence_checker.proofs.rows.are_rows.Given as goal

abbrev pub invariant-loop-k : goal.invariant-loop-k
invariant-loop-k l = AllZip IsRow (take l.k l.symbols) (take l.k l.visits)
