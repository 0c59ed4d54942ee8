use Rattle.std.proofs.Common.{take}
use Rattle.std.specs.List.{AllZip}
use Rattle.flat_grammar.specs.SoundPlan.{IsSoundSequence}
use Rattle.sequence_checker.proofs.verdict.check_sequences.Given as goal

abbrev pub invariant-loop-k : goal.invariant-loop-k
invariant-loop-k l = AllZip (IsSoundSequence l.flat.symbols l.plan.visits) (take l.k l.flat.rules) (take l.k l.plan.seqs)
