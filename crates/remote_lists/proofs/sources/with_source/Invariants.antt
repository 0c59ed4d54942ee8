use Rattle.std.proofs.Common.{◌≡◌, map, take}
use Rattle.remote_lists.specs.Sources.{is_source}
use Rattle.remote_lists.proofs.sources.with_source.Given as goal

-- the symbols so far
abbrev pub invariant-loop-source : goal.invariant-loop-source
invariant-loop-source l = l.set.items ≡ map is_source (take l.source-index l.sources)
