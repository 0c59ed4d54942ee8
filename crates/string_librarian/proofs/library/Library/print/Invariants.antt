use Rattle.std.proofs.Common.{◌≡◌, ◌≤◌, vec_capacity}
use Rattle.string_librarian.specs.Rooms.{all_cells}
use Rattle.string_librarian.specs.Printing.{all_steps}
use Rattle.string_librarian.proofs.WritingLemmas.{IsWritten}
use Rattle.string_librarian.proofs.library.Library.print.Given as goal

abbrev pub invariant-loop-pending : goal.invariant-loop-pending
invariant-loop-pending g l = record {
  text : IsWritten l.self l.patterns.list l.strings l.fn.desc l.pending.items (g.K.Sink.written l.fn.sink) (g.K.Sink.written l.sink) l.written;
  later : g.K.Sink.faults l.fn.sink ≤ g.K.Sink.faults l.sink;
  capacity : vec_capacity l.pending ≡ vec_capacity l.fn.pending;
}

abbrev pub decreases-loop-pending : goal.decreases-loop-pending
decreases-loop-pending g l = all_steps l.self l.patterns.list (all_cells l.self) l.pending.items
