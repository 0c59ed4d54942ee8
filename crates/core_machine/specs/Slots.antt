-- Where a run on one thread keeps the values of instances: in one list, node by node.
use Rattle.std.specs.Prelude.{ℕ, suc, ◌+◌, List, length, map, sum_by, Option, Some, None, slice_get}
use Rattle.std.specs.List.{range_with_len}
use Rattle.lido_base.specs.declared.value.Value.{Value}
use Rattle.flat_grammar.specs.Rules.{attrs_of}
use Rattle.flat_grammar.specs.WholeOrder.{Instance}
use Rattle.core_machine.specs.Core.{Task, rule_of}

module _ (j : Task) where
  -- how many attributes a node has
  abbrev pub width : ℕ → ℕ
  width n = elim (rule_of j n) [ None ↦ 0 | Some r ↦ length (attrs_of j.symbols r.left) ]

  -- how many the nodes before it have: where its values begin
  abbrev pub offset : ℕ → ℕ
  offset n = sum_by width (range_with_len 0 n)

  -- the offset of each node, and behind them that of the end
  abbrev pub all_offsets : List ℕ
  all_offsets = map offset (range_with_len 0 (suc (length j.flat)))

  -- the place of an instance's value
  abbrev pub slot : Instance → ℕ
  slot i = offset i.0 + i.1

  -- the value that the list has for an instance
  abbrev pub found : List Value → Instance → Option Value
  found values i = slice_get values (slot i)
