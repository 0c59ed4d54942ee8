use Rattle.rule_tables.specs.DirectClasses.{AreNumbersOf}
use Rattle.rule_tables.proofs.direct_classes.numbers_of.Given as goal

abbrev pub invariant-loop-k : goal.invariant-loop-k
invariant-loop-k l = AreNumbersOf l.symbols l.classes l.k l.ids.items
