use Rattle.std.proofs.Common.{◌≡◌, ℕ, ◌⊎◌, length, take}
use Rattle.std.specs.Prelude.{Contains}
use Rattle.induced_deps.specs.declared.graph.Place.{Place}
use Rattle.induced_deps.specs.Due.{IsUser}
use Rattle.induced_deps.proofs.due.add_user.Given as goal

abbrev pub invariant-loop-place : goal.invariant-loop-place
invariant-loop-place l = record {
  size : length l.users ≡ length l.initial.users;
  kept : (x k : ℕ) → IsUser l.initial.users x k → IsUser l.users x k;
  only : (x k : ℕ) → IsUser l.users x k → IsUser l.initial.users x k ⊎ (k ≡ l.rule);
  added : (p : Place) → Contains (take l.place-index l.places) p → IsUser l.users p.symbol.0 l.rule;
}
