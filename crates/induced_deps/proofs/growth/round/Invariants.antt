use Rattle.std.proofs.Common.{◌<◌, ◌≤◌, ℕ, length}
use Rattle.std.specs.Prelude.{IsTrue, IsFalse}
use Rattle.induced_deps.specs.Due.{IsDone, in_turn}
use Rattle.induced_deps.specs.Graphs.{AreDue, AreGraphs, AreSoundRows, HaveRows}
use Rattle.induced_deps.specs.Rounds.{room_of_all}
use Rattle.induced_deps.proofs.growth.round.Given as goal

abbrev pub invariant-loop-i : goal.invariant-loop-i
invariant-loop-i l = record {
  graphs : AreGraphs l.flat.symbols l.flat.rules l.graphs;
  rows : HaveRows l.flat.symbols l.ids;
  sound : AreSoundRows l.flat.symbols l.flat.rules l.ids;
  due : AreDue l.graphs l.ids l.due;
  quiet : IsFalse l.grew → (j : ℕ) → j < l.i → IsDone l.due.flags.items (in_turn l.back (length l.flat.rules) j);
  lighter : room_of_all l.ids ≤ room_of_all l.initial.ids;
  less : IsTrue l.grew → room_of_all l.ids < room_of_all l.initial.ids;
}
