use Rattle.expr_types.proofs.TypingLemmas.{one-type, one-call}
use Rattle.expr_types.proofs.laws.expressions_have_one_type.Goals as goal

pub returns : goal.returns
returns c = record { expression = λ spec single sets env holder r own e ty other g h. one-type spec single sets env holder r own e ty other g h; call = one-call }
