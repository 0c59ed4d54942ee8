-- Plain values and plain trees, over which meaning is defined: no id, descriptor or room stands in them.
use Rattle.std.specs.Prelude.{ℕ, ℤ, Bool, List, [], map, Option, Some, None, slice_get, unwrap_or}
use Rattle.lido_base.specs.declared.value.Value.{Value}
use Rattle.lido_base.specs.declared.value.Value.TheVariants as value
use Rattle.lido_base.specs.Tree.{Tree, Item, Child, Leaf}
use Rattle.lido_base.specs.declared.value.Origin.{Origin}

-- An int, a bool, a string and a built text as bytes, Void, or Bad with where and why an operation failed first.
pub data Plain : Type 0 where
  Int : ℤ → Plain
  Truth : Bool → Plain
  Str : List ℕ → Plain
  Text : List ℕ → Plain
  Void : Plain
  Bad : Origin → Plain

-- Where the value went wrong, if it did.
abbrev pub fault_of : Plain → Option Origin
fault_of (Bad o) = Some o
fault_of _ = None

module _ (texts : List (List ℕ)) where
  -- The plain value of a constant or a terminal, the texts being those of the ids. The empty text is the only built text
  -- among constants, and terminals are ints and strings.
  abbrev pub plain : Value → Plain
  plain (value.Int z) = Int z
  plain (value.Bool b) = Truth b
  plain (value.Str s) = Str (unwrap_or (slice_get texts s.0) [])
  plain (value.Text d) = Text []
  plain value.Void = Void
  plain (value.Bad o) = Bad o

  -- The item with its terminal made plain.
  abbrev pub plain_item : Item Value → Item Plain
  plain_item (Child c) = Child c
  plain_item (Leaf v) = Leaf (plain v)

  -- The tree with plain terminals, and all else as it was.
  abbrev pub plain_tree : Tree Value → Tree Plain
  plain_tree t =
      map (λ node. record { rule = node.rule; parent = node.parent; place = node.place; line = node.line; column = node.column; items = map plain_item node.items }) t
