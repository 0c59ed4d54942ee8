use Rattle.std.proofs.Common.{◌≡◌, take}
use Rattle.including_sets.specs.Keys.{listed_attrs}
use Rattle.including_sets.proofs.keys.listed_attrs.Given as goal

-- the symbols so far
abbrev pub invariant-loop-x : goal.invariant-loop-x
invariant-loop-x l = l.attrs.items ≡ listed_attrs l.symbols (take l.x l.rows) l.pairs
