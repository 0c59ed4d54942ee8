use Rattle.lido_base.proofs.FaultsLemmas.{at_place-none}
use Rattle.lido_syntax.specs.declared.fault.SpecFault.TheVariants as fault
use Rattle.kind_clashes.specs.KindClash.{IsKindClash}
use Rattle.leaf_types.proofs.SingleLemmas.{single-types}
use Rattle.leaf_types.proofs.laws.types_are_single.Goals as goal

pub returns : goal.returns
returns c = λ spec env text none. single-types spec env text (at_place-none (λ at. fault.KindClash at) (IsKindClash spec env) none.1.1.1.0)
