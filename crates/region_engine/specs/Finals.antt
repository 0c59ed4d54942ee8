-- The values of the final state in one list.
use Rattle.std.specs.Prelude.{ℕ, List, map, flat_map, length, unwrap_or}
use Rattle.std.specs.List.{range_with_len}
use Rattle.lido_base.specs.declared.value.Value.{Value}
use Rattle.lido_base.specs.declared.value.Value.TheVariants as value
use Rattle.core_machine.specs.Machine.{final}
use Rattle.core_machine.specs.Core.{Task, machine}
use Rattle.core_machine.specs.Slots.{width}

module _ (j : Task) where
  -- the values of a node's attributes in the final state
  abbrev pub values_at : ℕ → List Value
  values_at n = map (λ a. unwrap_or ((final (machine j)).values (n, a)) value.Void) (range_with_len 0 (width j n))

  -- the values of the final state, node by node
  abbrev pub final_values : List Value
  final_values = flat_map values_at (range_with_len 0 (length j.flat))
