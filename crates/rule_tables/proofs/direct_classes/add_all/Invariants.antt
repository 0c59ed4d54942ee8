use Rattle.std.proofs.Common.{◌≡◌, ℕ}
use Rattle.kind_clashes.specs.Names.{HasMore}
use Rattle.kind_clashes.proofs.LeastLemmas.{AmongFirst}
use Rattle.rule_tables.proofs.direct_classes.add_all.Given as goal

abbrev pub invariant-loop-id : goal.invariant-loop-id
invariant-loop-id l = HasMore (AmongFirst (λ (x : ℕ) class. x ≡ class) l.ids l.id-index) l.initial.classes l.classes
