use Rattle.kind_clashes.proofs.TypesLemmas.{faulty}
use Rattle.kind_clashes.proofs.types.faulty_term.Goals as goal

pub returns : goal.returns
returns c = faulty c.args.spec.now c.args.sets.now c.requires c.as_slice-terms.ensures c.earlier.ensures c.least_misnamed.ensures c.in_ok-second_type.ensures
