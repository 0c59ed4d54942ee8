use Rattle.trials_of_grammar.specs.ListOfItems.{symbol}
use Rattle.trials_of_grammar.proofs.TestedGrammars.{same-well-formed}
use Rattle.trials_of_orders.specs.ClashingContexts.{symbols, rules, shapes}
use Rattle.trials_of_orders.proofs.WellFormedGrammars.{clashing-well-formed}
use Rattle.trials_of_orders.proofs.clashing_contexts.grammar.Goals as goal

pub invariant_of-result : goal.invariant_of-result
invariant_of-result c = record { well_formed = same-well-formed symbols c.in_ok-symbols.field-0 rules c.in_ok-rules.field-0 shapes c.in_ok-shapes.field-0 (symbol 1) c.in_ok-symbols.ensures c.in_ok-rules.ensures c.in_ok-shapes.ensures clashing-well-formed }
