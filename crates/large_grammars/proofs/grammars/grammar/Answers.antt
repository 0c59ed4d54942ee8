use Rattle.large_grammars.proofs.GrammarLemmas.{well-formed}
use Rattle.large_grammars.proofs.grammars.grammar.Goals as goal

pub invariant_of-result : goal.invariant_of-result
invariant_of-result c = record { well_formed = well-formed c.args.size c.requires c.in_ok-symbols.symbols c.in_ok-symbols.ensures c.in_ok-rules.rules c.in_ok-rules.ensures c.in_ok-shapes.shapes c.in_ok-shapes.ensures c.root_of.result c.root_of.ensures }
