use Rattle.std.proofs.Common.{ℕ, take}
use Rattle.std.specs.Prelude.{Contains, IsTrue, ◌↔◌}
use Rattle.need_graphs.specs.Users.{has}
use Rattle.need_graphs.proofs.numbers.Numbers.of.Given as goal

-- the numbers so far
abbrev pub invariant-loop-number : goal.invariant-loop-number
invariant-loop-number l = (n : ℕ) → IsTrue (has l.set n) ↔ Contains (take l.number-index l.numbers) n
