use Rattle.std.proofs.Common.{◌≡◌, ◌++◌, take}
use Rattle.symbol_attributes.specs.Named.{declared_by}
use Rattle.symbol_attributes.proofs.named.push_decls.Given as goal

abbrev pub invariant-loop-decl : goal.invariant-loop-decl
invariant-loop-decl l = l.found.items ≡ l.initial.found.items ++ declared_by l.own (take l.decl-index l.decls)
