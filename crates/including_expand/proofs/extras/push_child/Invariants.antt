use Rattle.std.proofs.Common.{◌≡◌, ◌++◌, take}
use Rattle.including_expand.specs.Extras.{child_comps}
use Rattle.including_expand.proofs.extras.push_child.Given as goal

-- the sets so far
abbrev pub invariant-loop-i : goal.invariant-loop-i
invariant-loop-i l = l.comps.items ≡ l.initial.comps.items ++ child_comps l.needs (take l.i l.sets) l.rule.0 l.left.0 (l.j, l.child)
