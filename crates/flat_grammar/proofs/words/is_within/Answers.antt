use Rattle.std.proofs.Common.{eq-eqb}
use Rattle.std.proofs.lemmas.Bool.{eqb-true}
use Rattle.std.specs.Prelude.{bit_or}
use Rattle.flat_grammar.proofs.BitsLemmas.{union-within, within-union}
use Rattle.flat_grammar.proofs.words.is_within.Goals as goal

pub returns : goal.returns
returns c = (λ same. within-union c.args.set c.args.other (eqb-true (bit_or c.args.set c.args.other) c.args.other same), λ within. eq-eqb (bit_or c.args.set c.args.other) c.args.other (union-within c.args.set c.args.other within))
