use Rattle.flat_grammar.proofs.ListedLemmas.{AreListed}
use Rattle.flat_grammar.proofs.bits.Bits.attrs.Given as goal

abbrev pub invariant-loop-attr : goal.invariant-loop-attr
invariant-loop-attr l = AreListed l.fn.self l.rest l.list.items

abbrev pub decreases-loop-attr : goal.decreases-loop-attr
decreases-loop-attr l = l.rest
