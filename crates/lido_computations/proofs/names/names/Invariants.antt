use Rattle.std.proofs.Common.{length, ◌<◌}
use Rattle.lido_base.specs.Reading.{Leads}
use Rattle.lido_computations.specs.Phrases.{AreMore, AreSeparated, IsName, is_comma}
use Rattle.lido_computations.proofs.names.names.Given as goal

abbrev pub invariant-loop-more : goal.invariant-loop-more
invariant-loop-more l = record {
  leads : Leads (AreMore IsName l.found.items) is_comma l.rest (AreSeparated IsName) is_comma l.tokens;
  shorter : length l.rest < length l.tokens;
}

abbrev pub decreases-loop-more : goal.decreases-loop-more
decreases-loop-more l = length l.rest
