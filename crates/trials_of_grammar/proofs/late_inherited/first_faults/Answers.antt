use Rattle.trials_of_grammar.proofs.LateInheritedPlan.{row-missing, no-such-child, evaluated-twice, visited-twice, last-visit-missing, visited-too-early, evaluated-too-early, left-too-early}
use Rattle.trials_of_grammar.proofs.late_inherited.first_faults.Goals as goal

pub returns-clause-row_missing : goal.returns-clause-row_missing
returns-clause-row_missing c = row-missing

pub returns-clause-no_such_child : goal.returns-clause-no_such_child
returns-clause-no_such_child c = no-such-child

pub returns-clause-evaluated_twice : goal.returns-clause-evaluated_twice
returns-clause-evaluated_twice c = evaluated-twice

pub returns-clause-visited_twice : goal.returns-clause-visited_twice
returns-clause-visited_twice c = visited-twice

pub returns-clause-last_visit_missing : goal.returns-clause-last_visit_missing
returns-clause-last_visit_missing c = last-visit-missing

pub returns-clause-visited_too_early : goal.returns-clause-visited_too_early
returns-clause-visited_too_early c = visited-too-early

pub returns-clause-evaluated_too_early : goal.returns-clause-evaluated_too_early
returns-clause-evaluated_too_early c = evaluated-too-early

pub returns-clause-left_too_early : goal.returns-clause-left_too_early
returns-clause-left_too_early c = left-too-early
