-- A run along the whole order: what it has behind some instances, where others are left.
use Rattle.std.specs.Prelude.{◌≡◌, ◌≤◌, ◌==◌, ◌++◌, ℕ, suc, List, [], if◌then◌else◌, length, map, flat_map, fold, sum_by, Some, None, slice_get, Contains}
use Rattle.std.specs.List.{range_with_len}
use Rattle.lido_base.specs.declared.value.Value.{Value}
use Rattle.string_librarian.specs.Rooms.{RoomState, Deposit}
use Rattle.tree_store.specs.Regions.{region}
use Rattle.flat_grammar.specs.declared.flat.FlatRule.{FlatRule}
use Rattle.flat_grammar.specs.declared.flat.FlatComp.{FlatComp}
use Rattle.flat_grammar.specs.Expressions.{weight}
use Rattle.flat_grammar.specs.Fitting.{cells}
use Rattle.flat_grammar.specs.WholeOrder.{Instance}
use Rattle.flat_grammar.specs.Instances.{IsInstance}
use Rattle.core_machine.specs.Machine.{State, after, opening, final}
use Rattle.core_machine.specs.Core.{Task, rule_of, computation_of, instances_in_order, items_for, machine}
use Rattle.core_machine.specs.Slots.{offset, found}

module _ (j : Task) where
  -- the state behind these instances
  abbrev pub behind : List Instance → State Instance Value Deposit
  behind front = fold (after (machine j)) opening (flat_map (items_for j) front)

  -- the text cells of an instance's computation, where its region has this number
  abbrev pub cost_in : ℕ → Instance → ℕ
  cost_in r i = elim (computation_of j i) [ None ↦ 0 | Some c ↦ (if region j.flat j.nodes c.0 == r then cells c.2.value else 0) ]

  -- the text cells of the computations at a node
  abbrev pub cells_at : ℕ → ℕ
  cells_at n = elim (rule_of j n) [ None ↦ 0 | Some r ↦ sum_by (λ (c : FlatComp). cells c.value) r.comps ]

  -- the text cells of the computations in a region
  abbrev pub cells_in : ℕ → ℕ
  cells_in r = sum_by (λ n. if region j.flat j.nodes n == r then cells_at n else 0) (range_with_len 0 (length j.flat))

  -- an empty room with space for all texts of a region
  abbrev pub empty_room : ℕ → RoomState
  empty_room r = record { number = r; deposits = []; space = cells_in r }

  -- the rooms in which a run begins
  abbrev pub empty_rooms : List RoomState
  empty_rooms = map empty_room (range_with_len 0 (suc (length j.nodes)))

  -- the stack has room for the arguments of each computation
  abbrev pub IsStackFor : ℕ → Type 0
  IsStackFor room = (r : FlatRule) (c : FlatComp) → Contains j.rules r → Contains r.comps c → weight c.value ≤ room

  -- the room of a region behind some instances: it has the region's deposits, and space for those of the others
  pub record IsRoomOf (front left : List Instance) (r : ℕ) (room : RoomState) : Type 0 where
    pub number : room.number ≡ r
    pub deposits : room.deposits ≡ (behind front).rooms r
    pub space : sum_by (cost_in r) left ≤ room.space

  -- Behind the first instances of the whole order the values and the rooms are those of the state, with the rest left.
  pub record IsBehind (front left : List Instance) (values : List Value) (rooms : List RoomState) : Type 0 where
    pub whole : instances_in_order j ≡ front ++ left
    pub many : length values ≡ offset j (length j.flat)
    pub stored : (i : Instance) → Contains front i → found j values i ≡ (behind front).values i
    pub count : length rooms ≡ suc (length j.nodes)
    pub each_room : (r : ℕ) (room : RoomState) → slice_get rooms r ≡ Some room → IsRoomOf front left r room

  -- The values of all instances and the rooms are those of the final state.
  pub record AreFinal (values : List Value) (rooms : List RoomState) : Type 0 where
    pub many : length values ≡ offset j (length j.flat)
    pub stored : (i : Instance) → IsInstance j.symbols j.rules j.flat i → found j values i ≡ (final (machine j)).values i
    pub each_room : map (λ (room : RoomState). room.number) rooms ≡ range_with_len 0 (suc (length j.nodes))
    pub deposits : map (λ (room : RoomState). room.deposits) rooms ≡ map (final (machine j)).rooms (range_with_len 0 (suc (length j.nodes)))
