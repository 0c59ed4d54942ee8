use Rattle.expr_types.proofs.CallLemmas.{types-Call, Call-types}
use Rattle.expr_types.proofs.laws.calls_have_the_types_of_their_functions.Goals as goal

pub returns : goal.returns
returns c = λ spec sets env holder r own f args ty. (types-Call spec sets env holder r own f args ty, Call-types spec sets env holder r own f args ty)
