-- One evaluation of a region: what it finds, and what it waits for.
use Rattle.std.specs.Prelude.{◌≡◌, ◌↔◌, ◌⊎◌, ◌≤◌, ◌+◌, ◌*◌, ℕ, Bool, true, [], ◌∷◌, if◌then◌else◌, Some, slice_get, Contains, length, vec_len, vec_capacity}
use Rattle.string_librarian.specs.Rooms.{RoomState}
use Rattle.boundary_table.specs.Desk.{Held, Knows, GoesOn, StoresNothing, Missed}
use Rattle.flat_grammar.specs.WholeOrder.{Instance}
use Rattle.core_machine.specs.Machine.{eval_of}
use Rattle.core_machine.specs.Core.{Task, home, needs}
use Rattle.core_machine.specs.Keys.{key_of}
use Rattle.region_engine.specs.declared.marks.Mark.TheVariants.{Delivered}
use Rattle.region_engine.specs.declared.evaluation.Bench.{Bench}
use Rattle.core_machine.specs.Runs.{cells_in, IsStackFor}
use Rattle.region_engine.specs.declared.values.Values.{Values}
use Rattle.region_engine.specs.Behind.{list}
use Rattle.region_engine.specs.Kept.{IsBehind}
use Rattle.region_engine.specs.Inputs.{IsLook}

-- the key was delivered
abbrev pub HasKey : Values → ℕ → Type 0
HasKey v key = slice_get v.marks.items key ≡ Some Delivered

-- The region and what was delivered to it stay, and its desk goes on and stores nothing.
pub record AreGoingOn (v w : Values) (d e : Held) : Type 0 where
  pub region : w.region ≡ v.region
  pub delivered : (key : ℕ) → HasKey v key ↔ HasKey w key
  pub goes_on : GoesOn d e
  pub stores : StoresNothing d e

module _ (j : Task) where
  -- nothing but values under keys changed, to those of the final state
  pub record IsLookedUp (v w : Values) (d e : Held) : Type 0 where
    pub region : w.region ≡ v.region
    pub begins : w.begins.items ≡ v.begins.items
    pub own : w.own.items ≡ v.own.items
    pub marks : w.marks.items ≡ v.marks.items
    pub count : length w.shared.items ≡ length v.shared.items
    pub look : IsLook j v.shared.items d w.shared.items e

  -- behind so many items the evaluation of an instance is next
  pub record IsNext (r n : ℕ) (v : Values) (room : RoomState) (i : Instance) : Type 0 where
    pub behind : IsBehind j r n v room
    pub next : slice_get (list j r) n ≡ Some (eval_of i)

  -- what an instance needs of other regions was delivered, or is known to the desk
  pub record HasInputs (i : Instance) (v : Values) (d : Held) : Type 0 where
    pub each : (k : Instance) → Contains (needs j i) k → (home j k ≡ home j i → ⊥) → HasKey v (key_of j k) ⊎ Knows d (key_of j k)

  -- something that an instance needs of another region wasn't delivered, and a look at the table didn't find it
  pub record AwaitsOther (i : Instance) (v : Values) (d e : Held) : Type 0 where
    pub input : Instance
    pub needed : Contains (needs j i) input
    pub far : home j input ≡ home j i → ⊥
    pub undelivered : ¬ HasKey v (key_of j input)
    pub missed : Missed d e (key_of j input)

  -- an empty room with space for all texts of a region, and room for the arguments of each computation
  pub record IsEmptyBench (r : ℕ) (b : Bench) : Type 0 where
    pub number : b.room.number ≡ r
    pub deposits : b.room.deposits ≡ []
    pub space : cells_in j r ≤ b.room.space
    pub empty : vec_len b.stack ≡ 0
    pub stack : IsStackFor j (vec_capacity b.stack)

-- Where the desk has a number, the value of the key was left in the table; else nothing was.
pub record IsLeft (numbered : Bool) (d e : Held) (key : ℕ) : Type 0 where
  pub goes_on : GoesOn d e
  pub known : numbered ≡ true → Knows e key
  pub numbers : e.view.numbers ≡ d.view.numbers
  pub mine : e.view.mine ≡ (if numbered then (2 * key + 1) ∷ 2 * key ∷ d.view.mine else d.view.mine)
