use Rattle.std.specs.Prelude.{IsTrue}
use Rattle.std.proofs.Common.{◌⊎◌}
use Rattle.lido_syntax.specs.declared.spec.RuleItem.{RuleItem}
use Rattle.lido_syntax.specs.Production.{left_of}
use Rattle.kind_clashes.specs.Least.{IsFirst, Among}
use Rattle.kind_clashes.specs.Names.{has}
use Rattle.kind_clashes.proofs.LeastLemmas.{AmongFirst}
use Rattle.table_faults.specs.Parts.{IsOutAt, IsSecondOut}
use Rattle.table_faults.proofs.outputs.bad_out_in_rules.Given as goal

-- the least place so far
abbrev pub invariant-loop-rule : goal.invariant-loop-rule
invariant-loop-rule l = IsFirst (AmongFirst (λ (r : RuleItem) at. (IsTrue (has l.sets.right_sides (left_of r)) × Among IsOutAt r.body at) ⊎ IsSecondOut r.body at) l.rules l.rule-index) l.least
