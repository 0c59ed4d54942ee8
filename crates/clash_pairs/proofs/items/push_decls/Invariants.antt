use Rattle.std.proofs.Common.{◌≡◌, ◌++◌, take}
use Rattle.clash_pairs.specs.Facts.{declared_kinds}
use Rattle.clash_pairs.proofs.items.push_decls.Given as goal

abbrev pub invariant-loop-decl : goal.invariant-loop-decl
invariant-loop-decl l = l.facts.items ≡ l.initial.facts.items ++ declared_kinds l.numbers l.own (take l.decl-index l.decls)
