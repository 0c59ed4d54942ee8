use Rattle.std.proofs.Common.{take}
use Rattle.constituents_expand.specs.Gatherings.{AreGatherings}
use Rattle.constituents_expand.proofs.gatherings.gatherings.Given as goal

-- the CONSTITUENTS so far
abbrev pub invariant-loop-one : goal.invariant-loop-one
invariant-loop-one l = AreGatherings l.forced l.symbols (take l.one-index l.uses) l.all.items
