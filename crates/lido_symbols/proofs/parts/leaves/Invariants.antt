use Rattle.std.proofs.Common.{◌≡◌, ◌++◌, map, flat_map, take}
use Rattle.lido_syntax.specs.Parts.{leaves as leaves_in}
use Rattle.lido_symbols.proofs.parts.leaves.Given as goal

abbrev pub invariant-loop-value : goal.invariant-loop-value
invariant-loop-value l = map (λ e. e.now) l.found.items ≡ map (λ e. e.now) l.initial.found.items ++ flat_map leaves_in (take l.value-index l.value-items)
