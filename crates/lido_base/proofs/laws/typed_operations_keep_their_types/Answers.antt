use Rattle.lido_base.proofs.TypesLemmas.{operate-type}
use Rattle.lido_base.proofs.laws.typed_operations_keep_their_types.Goals as goal

pub returns : goal.returns
returns c = λ texts patterns fails bad o types gives values. operate-type texts patterns fails bad o types gives values
