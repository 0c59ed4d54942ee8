use Rattle.value_ops.proofs.StandsLemmas.{result-stands}
use Rattle.value_ops.proofs.laws.results_stand_for_plain_values.Goals as goal

pub returns : goal.returns
returns c = λ texts patterns number rooms family node comp op args plains ds stand. result-stands texts patterns number rooms family node comp op args plains ds stand
