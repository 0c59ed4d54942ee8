use Rattle.std.proofs.Common.{◌≡◌, List, map}
use Rattle.std.specs.Prelude.{vec_len, vec_capacity, length}
use Rattle.flat_grammar.specs.WholeOrder.{Instance}
use Rattle.core_machine.specs.Machine.{eval_of}
use Rattle.core_machine.specs.Whole.{undivided}
use Rattle.core_machine.specs.Cursors.{left, IsCursor}
use Rattle.core_machine.specs.Runs.{IsBehind, IsStackFor}
use Rattle.core_machine.proofs.run.evaluate_all.Given as goal

-- the cursor stands behind the instances that are evaluated
abbrev pub invariant-loop-item : goal.invariant-loop-item
invariant-loop-item l = record {
  cursor : IsCursor (undivided l.whole) l.cursor;
  behind : (front : List Instance) × (rest : List Instance) × (left (undivided l.whole) l.cursor ≡ map eval_of rest) × IsBehind l.whole front rest l.values l.rooms;
  empty : vec_len l.stack ≡ 0;
  stack : IsStackFor l.whole (vec_capacity l.stack);
}

abbrev pub decreases-loop-item : goal.decreases-loop-item
decreases-loop-item l = length (left (undivided l.whole) l.cursor)
