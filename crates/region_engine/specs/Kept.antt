-- Where a region keeps values: those of attributes of split nodes by their keys, those of others node by node.
use Rattle.std.specs.Prelude.{◌≡◌, ◌⊎◌, ℕ, suc, ◌+◌, ◌==◌, true, List, if◌then◌else◌, length, map, sum_by, Option, Some, slice_get, slice_set, Contains, take, drop, ◌≤◌, false}
use Rattle.std.specs.List.{range_with_len}
use Rattle.lido_base.specs.declared.value.Value.{Value}
use Rattle.lido_base.specs.Tree.{contains}
use Rattle.tree_store.specs.Regions.{region}
use Rattle.flat_grammar.specs.WholeOrder.{Instance}
use Rattle.core_machine.specs.Machine.{eval_of, final}
use Rattle.core_machine.specs.Core.{Task, home, machine}
use Rattle.core_machine.specs.Keys.{key_of, key_count, contents_of, IsShared}
use Rattle.core_machine.specs.Slots.{width}
use Rattle.region_engine.specs.declared.marks.Mark.{Mark}
use Rattle.region_engine.specs.declared.marks.Mark.TheVariants.{Missing, Evaluated}
use Rattle.region_engine.specs.declared.values.Values.{Values}
use Rattle.string_librarian.specs.Rooms.{RoomState}
use Rattle.region_engine.specs.Behind.{list, room_at, cost_of}

-- something is there under the key
abbrev pub IsMarked : List Mark → ℕ → Type 0
IsMarked marks key = (m : Mark) × (slice_get marks key ≡ Some m) × (m ≡ Missing → ⊥)

-- The key has a mark, and what was delivered stays so.
pub record IsMarkedFor (before after : List Mark) (key : ℕ) : Type 0 where
  pub count : length after ≡ length before
  pub same : (k : ℕ) → (k ≡ key → ⊥) → slice_get after k ≡ slice_get before k
  pub here : ((slice_get before key ≡ Some Missing) × (slice_get after key ≡ Some Evaluated)) ⊎ (IsMarked before key × (slice_get after key ≡ slice_get before key))

module _ (j : Task) where
  -- how many attributes a node has, where it is of the region
  abbrev pub own_width : ℕ → ℕ → ℕ
  own_width r n = if region j.flat j.nodes n == r then width j n else 0

  -- how many the region's nodes before it have: where its values begin
  abbrev pub own_offset : ℕ → ℕ → ℕ
  own_offset r n = sum_by (own_width r) (range_with_len 0 n)

  -- the offset of each node, and behind them that of the end
  abbrev pub own_offsets : ℕ → List ℕ
  own_offsets r = map (own_offset r) (range_with_len 0 (suc (length j.flat)))

  -- the value that a region keeps for an instance
  abbrev pub stored : ℕ → List Value → List Value → Instance → Option Value
  stored r own shared i = if contains i.0 j.nodes then slice_get shared (key_of j i) else slice_get own (own_offset r i.0 + i.1)

  -- the value under each key is what it was, or that of the final state
  abbrev pub IsRefreshed : List Value → List Value → Type 0
  IsRefreshed before after = (key : ℕ) → (slice_get after key ≡ slice_get before key) ⊎ (slice_get after key ≡ slice_get (contents_of j) key)

  -- There is a place for each value of region r, and one for each key.
  pub record AreSized (r : ℕ) (v : Values) : Type 0 where
    pub begins : v.begins.items ≡ own_offsets r
    pub many : length v.own.items ≡ own_offset r (length j.flat)
    pub keys : length v.shared.items ≡ key_count j
    pub marks : length v.marks.items ≡ key_count j

  -- The value of an attribute of a split node was kept under its key.
  pub record IsKeptShared (v w : Values) (i : Instance) (x : Value) : Type 0 where
    pub own : w.own.items ≡ v.own.items
    pub shared : w.shared.items ≡ slice_set v.shared.items (key_of j i) x
    pub marks : IsMarkedFor v.marks.items w.marks.items (key_of j i)

  -- The value of another instance was kept at its place.
  pub record IsKeptOwn (r : ℕ) (v w : Values) (i : Instance) (x : Value) : Type 0 where
    pub own : w.own.items ≡ slice_set v.own.items (own_offset r i.0 + i.1) x
    pub shared : w.shared.items ≡ v.shared.items
    pub marks : w.marks.items ≡ v.marks.items

  -- The value joined what was kept.
  pub record IsKeptFor (r : ℕ) (v w : Values) (i : Instance) (x : Value) : Type 0 where
    pub region : w.region ≡ v.region
    pub begins : w.begins.items ≡ v.begins.items
    pub split : contains i.0 j.nodes ≡ true → IsKeptShared v w i x
    pub other : contains i.0 j.nodes ≡ false → IsKeptOwn r v w i x

  -- Behind so many items of its list region r keeps the values of what it evaluated, and of the marked keys, by the final state.
  pub record Keeps (r n : ℕ) (v : Values) : Type 0 where
    pub values : (i : Instance) → Contains (take n (list j r)) (eval_of i) → stored r v.own.items v.shared.items i ≡ (final (machine j)).values i
    pub marked : (key : ℕ) → IsMarked v.marks.items key → slice_get v.shared.items key ≡ slice_get (contents_of j) key
    pub evaluated : (i : Instance) → Contains (take n (list j r)) (eval_of i) → contains i.0 j.nodes ≡ true → IsMarked v.marks.items (key_of j i)
    pub owned : (i : Instance) → IsShared j i → slice_get v.marks.items (key_of j i) ≡ Some Evaluated → home j i ≡ r

  -- Behind so many items the values and the room are those of the final state, and the room has space for what follows.
  pub record IsBehind (r n : ℕ) (v : Values) (room : RoomState) : Type 0 where
    pub region : v.region ≡ r
    pub sized : AreSized r v
    pub keeps : Keeps r n v
    pub number : room.number ≡ r
    pub deposits : room.deposits ≡ room_at j r n
    pub space : sum_by (cost_of j r) (drop n (list j r)) ≤ room.space

-- no key is marked
abbrev pub AreEmpty : Values → Type 0
AreEmpty v = (key : ℕ) (m : Mark) → slice_get v.marks.items key ≡ Some m → m ≡ Missing
