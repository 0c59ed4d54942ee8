use Rattle.std.proofs.Common.{◌≡◌, false}
use Rattle.core_machine.specs.Cursors.{IsInside, left_of, moves_left}
use Rattle.core_machine.proofs.cursor.Cursor.settle.Given as goal

-- what is left of the list stays
abbrev pub invariant-loop : goal.invariant-loop
invariant-loop l = record {
  inside : IsInside l.job l.self;
  region : l.self.region ≡ l.initial.self.region;
  put : l.self.put ≡ false;
  left : left_of l.job l.self.frames ≡ left_of l.job l.initial.self.frames;
}

abbrev pub decreases-loop : goal.decreases-loop
decreases-loop l = moves_left l.job l.self.frames
