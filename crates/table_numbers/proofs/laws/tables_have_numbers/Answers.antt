use Rattle.table_numbers.proofs.Numbers.{has-numbers}
use Rattle.table_numbers.proofs.laws.tables_have_numbers.Goals as goal

pub returns : goal.returns
returns c = has-numbers
