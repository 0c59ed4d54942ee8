-- Assignments of values to the attributes of a tree's nodes, and to what chains have in front of nodes and behind them.
use Rattle.std.specs.Prelude.{ℕ, Option, unwrap_or}
use Rattle.lido_base.specs.Plain.{Plain, Void}

-- what of a node has a value: an attribute, or a chain's value in front of the node or behind it
pub data Slot : Type 0 where
  Attribute : ℕ → Slot
  Front : ℕ → Slot
  Behind : ℕ → Slot

-- what stands at a node's slot, if anything does
abbrev pub Assignment : Type 0
Assignment = ℕ → Slot → Option Plain

-- the value at a node's slot, and Void where none stands
abbrev pub value_at : Assignment → ℕ → Slot → Plain
value_at A n slot = unwrap_or (A n slot) Void
