use Rattle.std.proofs.Common.{◌≡◌, ℕ, ◌<◌}
use Rattle.std.specs.Prelude.{false, ◌&&◌}
use Rattle.symbol_inherit.specs.Classes.{is_candidate, inherits_by}
use Rattle.symbol_inherit.proofs.left.is_dropped.Given as goal

abbrev pub invariant-loop-o : goal.invariant-loop-o
invariant-loop-o l = (k : ℕ) → k < l.o → (is_candidate l.classes l.index l.x l.aim k && inherits_by l.classes k l.y) ≡ false
