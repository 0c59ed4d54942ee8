use Rattle.expr_types.proofs.NoComputationFaultLemmas.{no-computation-fault}
use Rattle.expr_types.proofs.laws.typed_computations_have_no_fault.Goals as goal

pub returns : goal.returns
returns c = λ spec single sets env holder r own goal c f typed x. no-computation-fault spec single sets env holder r own goal c f typed x
