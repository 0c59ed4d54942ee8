use Rattle.std.proofs.Common.{◌≤◌}
use Rattle.core_machine.proofs.SizeLemmas.{Each, IsLight}
use Rattle.region_engine.proofs.sizes.greatest_weight.Given as goal

-- no computation so far weighs more
abbrev pub invariant-loop-comp : goal.invariant-loop-comp
invariant-loop-comp l = record {
  all : Each (IsLight l.most) l.rule.comps l.comp-index;
  least : l.least ≤ l.most;
}
