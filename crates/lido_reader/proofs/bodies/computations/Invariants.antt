use Rattle.std.specs.Prelude.{ℕ, List, []}
use Rattle.std.proofs.Common.{length, ◌+◌, ◌≤◌}
use Rattle.lido_base.specs.Reading.{Leads}
use Rattle.lido_lexer.specs.Lexing.{Gains}
use Rattle.lido_computations.specs.Functions.{Keeps}
use Rattle.lido_computations.specs.Messages.{IsComputationIn}
use Rattle.lido_reader.specs.Items.{IsFurtherComputation, Repeats, is_not_end}
use Rattle.lido_reader.specs.Specification.{IsLater}
use Rattle.lido_reader.proofs.bodies.computations.Given as goal

abbrev pub invariant-loop-alloc : goal.invariant-loop-alloc
invariant-loop-alloc l = record {
  leads : (texts : List (List ℕ)) → IsLater l.strings texts
      → Leads (Repeats (IsFurtherComputation (IsComputationIn l.words texts l.owner)) (l.all.items, l.next)) is_not_end l.rest (Repeats (IsFurtherComputation (IsComputationIn l.words texts l.owner)) ([], l.number)) is_not_end l.tokens;
  kept : Gains l.fn.strings l.strings;
  same : Keeps l.fn.strings l.strings;
  each : length l.strings + length l.rest ≤ length l.fn.strings + length l.tokens;
  no_longer : length l.rest ≤ length l.tokens;
}

abbrev pub decreases-loop-alloc : goal.decreases-loop-alloc
decreases-loop-alloc l = length l.rest
