use Rattle.std.proofs.Common.{◌≡◌, map, take}
use Rattle.including_sets.specs.Keys.{listed_attrs}
use Rattle.including_sets.proofs.keys.all_listed_attrs.Given as goal

-- those so far
abbrev pub invariant-loop-one : goal.invariant-loop-one
invariant-loop-one l = l.all.items ≡ map (λ one. listed_attrs l.symbols l.rows one.pairs.now) (take l.one-index l.uses)
