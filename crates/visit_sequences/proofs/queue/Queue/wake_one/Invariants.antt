use Rattle.std.specs.Prelude.{slice_get, take, Contains}
use Rattle.std.proofs.Common.{◌≡◌, ℕ, Some, length}
use Rattle.flat_grammar.specs.declared.flat.Occ.{Occ}
use Rattle.visit_sequences.specs.declared.goals.Goal.{Goal}
use Rattle.visit_sequences.specs.Steps.{AreFree, AreListed, HasBit, HasSeen, StandsIn, Waits}
use Rattle.visit_sequences.proofs.queue.Queue.wake_one.Given as goal

-- those that were looked at stand somewhere, and all others as they did
abbrev pub invariant-loop-at : goal.invariant-loop-at
invariant-loop-at l = record {
  free : AreFree l.progress l.goals l.self;
  seen : HasSeen l.progress l.goals l.self;
  listed : AreListed l.progress l.self;
  count : length l.self.free.items ≡ length l.fn.self.free.items;
  more : (o : Occ) → HasBit l.fn.self.free.items o → HasBit l.self.free.items o;
  others : (u : Occ) (i : ℕ) → Waits l.fn.self u i → ¬ (l.fn.missing ≡ u) → Waits l.self u i;
  looked : (i : ℕ) (g : Goal) → slice_get l.goals i ≡ Some g → Contains (take l.at-index l.at-items) i → StandsIn l.progress l.self i g;
}
