use Rattle.trials_of_grammar.proofs.LateInheritedRows.{rows, bit-missing}
use Rattle.trials_of_grammar.proofs.late_inherited.rows_of_induced_dependencies.Goals as goal

pub returns-clause-met : goal.returns-clause-met
returns-clause-met c = rows

pub returns-clause-bit_missing : goal.returns-clause-bit_missing
returns-clause-bit_missing c = bit-missing
