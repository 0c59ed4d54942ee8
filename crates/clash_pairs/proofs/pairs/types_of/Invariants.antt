use Rattle.std.proofs.Common.{◌≡◌, take}
use Rattle.clash_pairs.specs.Twofold.{attr_types}
use Rattle.clash_pairs.proofs.pairs.types_of.Given as goal

abbrev pub invariant-loop-decl : goal.invariant-loop-decl
invariant-loop-decl l = l.typed.items ≡ attr_types (take l.decl-index l.decls)
