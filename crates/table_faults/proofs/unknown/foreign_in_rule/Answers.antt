use Rattle.std.proofs.lemmas.Result.{IfOk-weaker}
use Rattle.kind_clashes.proofs.LeastLemmas.{first-at}
use Rattle.table_faults.proofs.unknown.foreign_in_rule.Goals as goal

pub returns : goal.returns
returns c = IfOk-weaker c.foreign_in_body.result _ _ (λ found first. first-at c.as_slice.ensures first) c.foreign_in_body.ensures
