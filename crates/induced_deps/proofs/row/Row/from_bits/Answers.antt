use Rattle.induced_deps.proofs.WordLemmas.{from_halves}
use Rattle.induced_deps.proofs.row.Row.from_bits.Goals as goal

pub returns : goal.returns
returns c = let s = c.bits.inside in from_halves c.args.bits s.low s.high c.args.by c.from_word-row.result.words c.from_word.result.words c.join.new.self.words c.bits.view_is c.bits.invariant c.from_word-row.ensures c.from_word.ensures c.join.ensures.members
