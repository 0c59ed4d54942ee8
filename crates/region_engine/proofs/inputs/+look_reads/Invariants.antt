use Rattle.std.proofs.Common.{take}
use Rattle.std.specs.Prelude.{flat_map}
use Rattle.flat_grammar.specs.Rules.{reads}
use Rattle.flat_grammar.specs.Expressions.{weight}
use Rattle.region_engine.specs.Inputs.{AllAtHand, IsLook}
use Rattle.region_engine.proofs.inputs.+look_reads.Given as goal

abbrev pub decreases-look_reads : goal.decreases-look_reads
decreases-look_reads l = weight l.value.now

-- the values that the arguments so far read are at hand
abbrev pub invariant-loop-argument : goal.invariant-loop-argument
invariant-loop-argument l = record {
  look : IsLook l.job l.initial.shared l.initial.desk l.shared l.desk;
  hand : AllAtHand l.job l.node l.marks l.shared l.desk (flat_map reads (take l.argument-index l.argument-items));
}
