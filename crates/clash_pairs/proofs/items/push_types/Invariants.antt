use Rattle.std.proofs.Common.{◌≡◌, ◌++◌, take}
use Rattle.clash_pairs.specs.Facts.{declared_types}
use Rattle.clash_pairs.proofs.items.push_types.Given as goal

abbrev pub invariant-loop-decl : goal.invariant-loop-decl
invariant-loop-decl l = l.facts.items ≡ l.initial.facts.items ++ declared_types l.numbers l.own (take l.decl-index l.decls)
