use Rattle.std.proofs.Common.{◌≡◌, map, take}
use Rattle.constituents_expand.specs.Gatherings.{is_source}
use Rattle.constituents_expand.proofs.gatherings.with_source.Given as goal

-- the symbols so far
abbrev pub invariant-loop-source : goal.invariant-loop-source
invariant-loop-source l = l.set.items ≡ map is_source (take l.source-index l.sources)
