-- What the limits on a flat tree say of a run: how long the list of items is, how many cells a room needs, and in which range the
-- values are.
use Rattle.std.specs.Prelude.{◌≡◌, ◌≤◌, ◌<◌, ◌*◌, ◌^◌, ℕ, length, Contains, Some, slice_get}
use Rattle.lido_base.specs.declared.value.Value.{Value}
use Rattle.lido_base.specs.Ranges.{IsInRange}
use Rattle.lido_base.specs.Tree.{Leaf, items_of, line_of, column_of}
use Rattle.string_librarian.specs.Rooms.{cells_of}
use Rattle.flat_grammar.specs.declared.flat.FlatRule.{FlatRule}
use Rattle.flat_grammar.specs.declared.flat.FlatComp.{FlatComp}
use Rattle.flat_grammar.specs.declared.flat.FlatExpr.{FlatExpr, Value as Constant, Terminal, Read, Coord, Apply', If', Order', Row_of-FlatExpr, end_of-FlatExpr, more_of-FlatExpr}
use Rattle.flat_grammar.specs.WholeOrder.{Instance}
use Rattle.flat_grammar.specs.Fitting.{most_instances, most_text_cells}
use Rattle.core_machine.specs.Machine.{final}
use Rattle.core_machine.specs.Core.{Task, IsTask, instances_in_order, items, machine}

-- there are at most as many instances as a flat tree may have, and an item or two for each
abbrev pub FewItems : Type 0
FewItems = (j : Task) → IsTask j → (length (instances_in_order j) ≤ most_instances) × (length (items j) ≤ 2 * most_instances)

-- the deposits of each room use at most as many cells as a flat tree may have
abbrev pub RoomsHaveSpace : Type 0
RoomsHaveSpace = (j : Task) → IsTask j → (r : ℕ) → cells_of ((final (machine j)).rooms r) ≤ most_text_cells

-- The numbers in an expression are those of their types: the constants', and those of the computations that its calls name.
abbrev mutual
  pub HasNumbers : FlatExpr → Type 0
  HasNumbers (Constant v) = IsInRange v
  HasNumbers (Terminal k) = Unit {0}
  HasNumbers (Read o) = Unit {0}
  HasNumbers (Coord part) = Unit {0}
  HasNumbers (Apply' comp op shape args) = (comp < 2 ^ 16) × HaveNumbers args
  HasNumbers (If' shape args) = HaveNumbers args
  HasNumbers (Order' shape args) = HaveNumbers args

  pub HaveNumbers : {m : _} → Row_of-FlatExpr m → Type 0
  HaveNumbers end_of-FlatExpr = Unit {0}
  HaveNumbers (more_of-FlatExpr e es) = HasNumbers e × HaveNumbers es

-- The numbers of which a job is made are those of their types.
pub record AreInTheirTypes (j : Task) : Type 0 where
  pub expressions : (r : FlatRule) (c : FlatComp) → Contains j.rules r → Contains r.comps c → HasNumbers c.value
  pub leaves : (n k : ℕ) (v : Value) → slice_get (items_of j.flat n) k ≡ Some (Leaf v) → IsInRange v
  pub lines : (n : ℕ) → line_of j.flat n < 2 ^ 32
  pub columns : (n : ℕ) → column_of j.flat n < 2 ^ 32
  pub nodes : (n w : ℕ) → slice_get j.node_of n ≡ Some w → w < 2 ^ 32

-- Where the numbers of a job are those of their types, so are those of all values of the final state.
abbrev pub ValuesAreInRange : Type 0
ValuesAreInRange = (j : Task) → IsTask j → AreInTheirTypes j → (i : Instance) (v : Value) → (final (machine j)).values i ≡ Some v → IsInRange v
