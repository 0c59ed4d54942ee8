use Rattle.kind_clashes.specs.Names.{HasMore}
use Rattle.kind_clashes.proofs.LeastLemmas.{AmongFirst}
use Rattle.rule_tables.specs.DirectClasses.{IsHandedBy}
use Rattle.rule_tables.proofs.direct_classes.handed_to.Given as goal

abbrev pub invariant-loop-k : goal.invariant-loop-k
invariant-loop-k l = HasMore (AmongFirst (IsHandedBy l.symbol.0) l.items l.k) l.initial.classes l.classes
