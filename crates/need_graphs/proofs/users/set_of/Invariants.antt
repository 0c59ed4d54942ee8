use Rattle.std.proofs.Common.{◌≡◌, ℕ, take, length}
use Rattle.std.specs.Prelude.{Contains, IsTrue, ◌↔◌}
use Rattle.least_paths.specs.Graph.{is_in}
use Rattle.need_graphs.proofs.users.set_of.Given as goal

-- the numbers so far
abbrev pub invariant-loop-x : goal.invariant-loop-x
invariant-loop-x l = record {
  length_kept : length l.set.items ≡ l.count;
  exactly : (y : ℕ) → IsTrue (is_in l.set.items y) ↔ Contains (take l.x-index l.numbers) y;
}
