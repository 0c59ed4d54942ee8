-- A cursor that stands at an item has one left, and one fewer behind it.
use Rattle.std.specs.Prelude.{List, [], ◌∷◌, length, drop, Some, ◌<◌, ◌-◌, ◌≡◌}
use Rattle.std.proofs.Common.{arith, ap}
use Rattle.flat_grammar.specs.WholeOrder.{Instance}
use Rattle.core_machine.specs.declared.cursor.Item.{Item as Named}
use Rattle.core_machine.specs.Machine.{Item}
use Rattle.core_machine.specs.Core.{Task}
use Rattle.core_machine.specs.Cursors.{IsFirst}

pub some_left : (j : Task) (xs : List (Item Instance)) (x : Named) → IsFirst j xs (Some x) → 0 < length xs
some_left j [] x h = absurd h
some_left j (y ∷ xs) x h = omega arith

pub fewer_left : (xs ys : List (Item Instance)) → 0 < length xs → ys ≡ drop 1 xs → length ys < length xs
fewer_left [] ys h e = absurd (omega (arith, h))
fewer_left (x ∷ xs) ys h e = let l : length ys ≡ length xs = ap length e in omega (arith, l)
