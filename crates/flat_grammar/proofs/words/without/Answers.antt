use Rattle.flat_grammar.proofs.BitsLemmas.{beside_bits}
use Rattle.flat_grammar.proofs.words.without.Goals as goal

pub returns : goal.returns
returns c = beside_bits c.args.set c.args.other c.ranges.set.fits c.ranges.other.fits
