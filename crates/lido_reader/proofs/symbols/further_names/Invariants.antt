use Rattle.std.specs.Prelude.{[], ◌∷◌}
use Rattle.std.proofs.Common.{length, ◌≤◌}
use Rattle.lido_base.specs.Reading.{Leads}
use Rattle.lido_computations.specs.Phrases.{AreMore, IsName, is_comma}
use Rattle.lido_reader.proofs.symbols.further_names.Given as goal

abbrev pub invariant-loop-behind_comma : goal.invariant-loop-behind_comma
invariant-loop-behind_comma l = record {
  leads : Leads (AreMore IsName l.all.items) is_comma l.rest (AreMore IsName (l.fn.first ∷ [])) is_comma l.tokens;
  no_longer : length l.rest ≤ length l.tokens;
}

abbrev pub decreases-loop-behind_comma : goal.decreases-loop-behind_comma
decreases-loop-behind_comma l = length l.rest
