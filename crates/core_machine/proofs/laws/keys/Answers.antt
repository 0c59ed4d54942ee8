use Rattle.core_machine.proofs.KeyLemmas.{counted, named, differ}
use Rattle.core_machine.proofs.laws.keys.Goals as goal

pub returns : goal.returns
returns c = record {
  counted = λ j task. counted j task;
  named = λ j task. named j task;
  different = λ j task. differ j task;
}
