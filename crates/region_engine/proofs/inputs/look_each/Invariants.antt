use Rattle.std.proofs.Common.{take}
use Rattle.region_engine.specs.Inputs.{AllAtHand, IsLook}
use Rattle.region_engine.proofs.inputs.look_each.Given as goal

-- the values of the occurrences so far are at hand
abbrev pub invariant-loop-o : goal.invariant-loop-o
invariant-loop-o l = record {
  look : IsLook l.job l.initial.shared l.initial.desk l.shared l.desk;
  hand : AllAtHand l.job l.node l.marks l.shared l.desk (take l.o-index l.list);
}
