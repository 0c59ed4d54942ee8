use Rattle.std.proofs.Common.{◌≡◌, ◌++◌, take}
use Rattle.including_expand.specs.Extras.{symbol_attrs}
use Rattle.including_expand.proofs.extras.push_symbol.Given as goal

-- the sets so far
abbrev pub invariant-loop-i : goal.invariant-loop-i
invariant-loop-i l = l.attrs.items ≡ l.initial.attrs.items ++ symbol_attrs l.needs (take l.i l.sets) l.symbol
