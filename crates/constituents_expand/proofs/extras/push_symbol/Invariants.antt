use Rattle.std.proofs.Common.{◌≡◌, ◌++◌, take}
use Rattle.constituents_expand.specs.Extras.{symbol_attrs}
use Rattle.constituents_expand.proofs.extras.push_symbol.Given as goal

-- the CONSTITUENTS so far
abbrev pub invariant-loop-gathering : goal.invariant-loop-gathering
invariant-loop-gathering l = l.attrs.items ≡ l.initial.attrs.items ++ symbol_attrs (take l.gathering-index l.gatherings) l.symbol
