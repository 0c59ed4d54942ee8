use Rattle.std.proofs.Common.{◌≡◌, take}
use Rattle.including_expand.specs.Extras.{all_attrs}
use Rattle.including_expand.proofs.extras.all_attrs.Given as goal

-- the symbols so far
abbrev pub invariant-loop-x : goal.invariant-loop-x
invariant-loop-x l = l.attrs.items ≡ all_attrs l.needs l.sets (take l.x l.rows)
