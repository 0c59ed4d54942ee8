use Rattle.induced_deps.specs.Graphs.{AreDue, AreGraphs, AreSoundRows, HaveRows}
use Rattle.induced_deps.specs.Rounds.{room_of_all}
use Rattle.induced_deps.proofs.growth.grow.Given as goal

abbrev pub invariant-loop-back : goal.invariant-loop-back
invariant-loop-back l = record {
  graphs : AreGraphs l.flat.symbols l.flat.rules l.graphs;
  rows : HaveRows l.flat.symbols l.ids;
  sound : AreSoundRows l.flat.symbols l.flat.rules l.ids;
  due : AreDue l.graphs l.ids l.due;
}

abbrev pub decreases-loop-back : goal.decreases-loop-back
decreases-loop-back l = room_of_all l.ids
