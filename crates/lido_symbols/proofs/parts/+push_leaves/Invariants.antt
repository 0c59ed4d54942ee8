use Rattle.std.proofs.Common.{◌≡◌, ◌++◌, map, flat_map, take}
use Rattle.lido_syntax.specs.Parts.{leaves as leaves_in}
use Rattle.lido_symbols.proofs.parts.+push_leaves.Given as goal

abbrev pub invariant-loop-arg : goal.invariant-loop-arg
invariant-loop-arg l = map (λ e. e.now) l.found.items ≡ map (λ e. e.now) l.initial.found.items ++ flat_map leaves_in (take l.arg-index l.arg-items)
