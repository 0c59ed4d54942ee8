use Rattle.expr_types.proofs.NoFaultLemmas.{no-fault}
use Rattle.expr_types.proofs.laws.typed_expressions_have_no_fault.Goals as goal

pub returns : goal.returns
returns c = λ spec single sets env holder r own e ty f g h. no-fault spec single sets env holder r own e ty f g h
