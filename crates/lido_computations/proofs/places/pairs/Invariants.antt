use Rattle.std.proofs.Common.{length, ◌<◌}
use Rattle.lido_base.specs.Reading.{Leads}
use Rattle.lido_computations.specs.Phrases.{AreMore, AreSeparated, is_comma}
use Rattle.lido_computations.specs.Places.{IsPair}
use Rattle.lido_computations.proofs.places.pairs.Given as goal

abbrev pub invariant-loop-more : goal.invariant-loop-more
invariant-loop-more l = record {
  leads : Leads (AreMore IsPair l.found.items) is_comma l.rest (AreSeparated IsPair) is_comma l.tokens;
  shorter : length l.rest < length l.tokens;
}

abbrev pub decreases-loop-more : goal.decreases-loop-more
decreases-loop-more l = length l.rest
