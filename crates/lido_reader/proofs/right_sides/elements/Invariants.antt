use Rattle.std.specs.Prelude.{[]}
use Rattle.std.proofs.Common.{length, ◌≤◌}
use Rattle.lido_base.specs.Reading.{Leads}
use Rattle.lido_reader.specs.Items.{IsFurtherElement, Repeats, is_element}
use Rattle.lido_reader.proofs.right_sides.elements.Given as goal

abbrev pub invariant-loop-element : goal.invariant-loop-element
invariant-loop-element l = record {
  leads : Leads (Repeats IsFurtherElement l.all.items) is_element l.rest (Repeats IsFurtherElement []) is_element l.tokens;
  no_longer : length l.rest ≤ length l.tokens;
}

abbrev pub decreases-loop-element : goal.decreases-loop-element
decreases-loop-element l = length l.rest
