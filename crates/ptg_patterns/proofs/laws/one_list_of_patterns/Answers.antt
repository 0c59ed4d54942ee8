use Rattle.std.proofs.Common.{sym}
use Rattle.ptg_patterns.proofs.OneLemmas.{one_list_of_patterns, one_table}
use Rattle.ptg_patterns.proofs.laws.one_list_of_patterns.Goals as goal

pub returns-clause-answer : goal.returns-clause-answer
returns-clause-answer c = one_list_of_patterns

pub returns-clause-table : goal.returns-clause-table
returns-clause-table c = λ texts text first second a b. sym (one_table texts text first second a b)
