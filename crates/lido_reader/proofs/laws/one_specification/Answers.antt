use Rattle.lido_reader.proofs.SureItemsLemmas.{one_spec}
use Rattle.lido_reader.proofs.laws.one_specification.Goals as goal

pub returns : goal.returns
returns c = one_spec
