use Rattle.std.proofs.Common.{◌≡◌, ◌++◌, flat_map, take}
use Rattle.symbol_attributes.specs.Said.{said_by_decl}
use Rattle.symbol_attributes.proofs.said.push_decls.Given as goal

abbrev pub invariant-loop-decl : goal.invariant-loop-decl
invariant-loop-decl l = l.list.items ≡ l.initial.list.items ++ flat_map (said_by_decl l.own) (take l.decl-index l.decls)
