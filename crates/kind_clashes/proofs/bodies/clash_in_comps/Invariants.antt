use Rattle.kind_clashes.specs.Least.{IsFirst}
use Rattle.kind_clashes.proofs.LeastLemmas.{AmongFirst}
use Rattle.kind_clashes.specs.Sides.{IsRuleCompClash}
use Rattle.kind_clashes.proofs.bodies.clash_in_comps.Given as goal

-- the least place so far
abbrev pub invariant-loop-comp : goal.invariant-loop-comp
invariant-loop-comp l = IsFirst (AmongFirst (IsRuleCompClash l.sets l.rule l.strings) l.body l.comp-index) l.least
