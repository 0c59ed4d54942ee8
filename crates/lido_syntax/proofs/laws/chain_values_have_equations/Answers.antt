use Rattle.lido_syntax.proofs.ThreadedLemmas.{front, behind}
use Rattle.lido_syntax.proofs.laws.chain_values_have_equations.Goals as goal

pub returns : goal.returns
returns c = record { front = front; behind = behind }
