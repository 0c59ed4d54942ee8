use Rattle.core_machine.proofs.LimitLemmas.{few-instances, few-items}
use Rattle.core_machine.proofs.laws.few_items.Goals as goal

pub returns : goal.returns
returns c = λ j task. (few-instances j task, few-items j task)
