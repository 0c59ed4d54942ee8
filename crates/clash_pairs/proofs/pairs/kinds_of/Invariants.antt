use Rattle.std.proofs.Common.{◌≡◌, take}
use Rattle.clash_pairs.specs.Twofold.{attr_kinds}
use Rattle.clash_pairs.proofs.pairs.kinds_of.Given as goal

abbrev pub invariant-loop-decl : goal.invariant-loop-decl
invariant-loop-decl l = l.said.items ≡ attr_kinds (take l.decl-index l.decls)
