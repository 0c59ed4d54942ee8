use Rattle.std.specs.Prelude.{ℕ, List}
use Rattle.std.proofs.Common.{length, ◌+◌, ◌≤◌}
use Rattle.lido_base.specs.Reading.{Leads}
use Rattle.lido_lexer.specs.Lexing.{Gains}
use Rattle.lido_reader.specs.Added.{Owes}
use Rattle.lido_computations.specs.Messages.{IsComputationIn}
use Rattle.lido_reader.specs.Found.{found_in}
use Rattle.lido_reader.specs.Items.{IsFurtherItem, Repeats, begins_item, called_in, no_items}
use Rattle.lido_reader.specs.Specification.{IsLater}
use Rattle.lido_reader.proofs.items.items.Given as goal

abbrev pub invariant-loop-alloc : goal.invariant-loop-alloc
invariant-loop-alloc l = record {
  leads : (texts : List (List ℕ)) → IsLater l.strings texts
      → Leads (Repeats (IsFurtherItem (called_in texts) (IsComputationIn l.words texts)) (found_in l.found)) begins_item l.rest
      (Repeats (IsFurtherItem (called_in texts) (IsComputationIn l.words texts)) (no_items, 0)) begins_item l.tokens;
  owes : (texts : List (List ℕ)) → IsLater l.strings texts → Owes 1 l.tokens l.fn.strings (length l.found.rules.items + 1) l.rest l.strings;
  kept : Gains l.fn.strings l.strings;
  each : length l.strings + length l.rest ≤ length l.fn.strings + length l.tokens;
}

abbrev pub decreases-loop-alloc : goal.decreases-loop-alloc
decreases-loop-alloc l = length l.rest
