use Rattle.visit_sequences.proofs.BitsLemmas.{first-new}
use Rattle.visit_sequences.proofs.bits.least_new.Goals as goal

pub returns : goal.returns
returns c = first-new c.args.set c.args.old c.without.result c.first.result c.without.ensures c.first.ensures
