use Rattle.std.proofs.Common.{length, ◌<◌}
use Rattle.lido_base.specs.Reading.{Leads}
use Rattle.lido_reader.specs.Items.{AreChoices, IsFurtherListed, Repeats, is_bar}
use Rattle.lido_reader.proofs.right_sides.choices.Given as goal

abbrev pub invariant-loop-behind_bar : goal.invariant-loop-behind_bar
invariant-loop-behind_bar l = record {
  leads : Leads (Repeats IsFurtherListed l.all.items) is_bar l.rest AreChoices is_bar l.tokens;
  shorter : length l.rest < length l.tokens;
}

abbrev pub decreases-loop-behind_bar : goal.decreases-loop-behind_bar
decreases-loop-behind_bar l = length l.rest
