use Rattle.std.proofs.Common.{◌≡◌, ℕ, take}
use Rattle.flat_copies.specs.Ops.{op_in, op_named}
use Rattle.flat_copies.proofs.ops.Ops.of.Given as goal

-- the names so far
abbrev pub invariant-loop-name : goal.invariant-loop-name
invariant-loop-name l = (id : ℕ) → op_in l.ops id ≡ op_named (take l.name-index l.named) id
