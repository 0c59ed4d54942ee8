use Rattle.std.proofs.Common.{◌≡◌, take}
use Rattle.lido_syntax.specs.declared.spec.Spec.{Spec as Specification}
use Rattle.kind_clashes.specs.Sets.{AreNameSets}
use Rattle.rule_tables.proofs.RootLemmas.{AreBelow}
use Rattle.rule_tables.proofs.root.root_of.Given as goal

abbrev pub invariant-loop-rule : goal.invariant-loop-rule
invariant-loop-rule l = (spec : Specification) → spec.rules ≡ l.rules → AreNameSets spec l.sets → AreBelow spec (take l.rule-index l.rules)
