use Rattle.std.specs.Prelude.{flat_map}
use Rattle.std.proofs.Common.{◌≡◌, ◌++◌, take}
use Rattle.lido_symbols.specs.Numbers.{enumerated}
use Rattle.including_expand.specs.Extras.{child_comps}
use Rattle.including_expand.proofs.extras.push_rule.Given as goal

-- the children so far
abbrev pub invariant-loop-j : goal.invariant-loop-j
invariant-loop-j l = l.comps.items ≡ l.initial.comps.items ++ flat_map (child_comps l.needs l.sets l.number l.rule.left.0) (enumerated 0 (take l.j l.right))
