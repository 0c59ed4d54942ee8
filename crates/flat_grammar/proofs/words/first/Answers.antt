use Rattle.std.proofs.Common.{arith}
use Rattle.flat_grammar.proofs.BitsLemmas.{first_bit}
use Rattle.flat_grammar.proofs.words.first.Goals as goal

pub returns : goal.returns
returns c = first_bit c.args.set c.ranges.set.fits (omega arith)
