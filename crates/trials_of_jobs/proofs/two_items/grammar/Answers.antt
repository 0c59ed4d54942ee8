use Rattle.trials_of_jobs.specs.SplitList.{symbols, rules, shapes}
use Rattle.trials_of_grammar.specs.ListOfItems.{symbol}
use Rattle.trials_of_grammar.proofs.TestedGrammars.{same-well-formed}
use Rattle.trials_of_jobs.proofs.SplitGrammar.{formed}
use Rattle.trials_of_jobs.proofs.two_items.grammar.Goals as goal

pub invariant_of-result : goal.invariant_of-result
invariant_of-result c = record { well_formed = same-well-formed symbols c.in_ok-symbols.field-0 rules c.in_ok-rules.field-0 shapes c.in_ok-shapes.field-0 (symbol 0) c.in_ok-symbols.ensures c.in_ok-rules.ensures c.in_ok-shapes.ensures formed }
