-- Regions as contracts see them.
use Rattle.std.specs.Prelude.{◌≡◌, ◌↔◌, ◌⊎◌, ℕ, ◌≤◌, ◌<◌, ◌-◌, true, List, [], ◌∷◌, if◌then◌else◌, length, Some, slice_get, drop, vec_len, vec_capacity, Contains}
use Rattle.boundary_table.specs.Desk.{Held, Knows, GoesOn, Missed}
use Rattle.flat_grammar.specs.WholeOrder.{Instance}
use Rattle.core_machine.specs.Machine.{eval_of, put_of}
use Rattle.core_machine.specs.Core.{Task, home, needs}
use Rattle.core_machine.specs.Cursors.{left, IsCursor}
use Rattle.core_machine.specs.Keys.{key_of, contents_of, owners_of}
use Rattle.core_machine.specs.Runs.{IsStackFor}
use Rattle.region_engine.specs.declared.region.Region.{Region}
use Rattle.region_engine.specs.Behind.{list, keys_at, keys_since, words_of}
use Rattle.region_engine.specs.Kept.{IsBehind}
use Rattle.region_engine.specs.Steps.{HasKey}
use Rattle.region_engine.specs.Notebooks.{HasNotebook}

-- the number of a region
abbrev pub number : Region → ℕ
number g = g.values.region

-- the key was delivered to the region
abbrev pub WasDelivered : Region → ℕ → Type 0
WasDelivered g key = HasKey g.values key

module _ (j : Task) where
  -- how many items of the region's list are left
  abbrev pub items_left : Region → ℕ
  items_left g = length (list j (number g)) - g.position

  -- The desk is one for the job's values, and has these numbers.
  pub record IsDesk (desk : Held) (drawn : List ℕ) : Type 0 where
    pub contents : desk.view.contents ≡ contents_of j
    pub owners : desk.view.owners ≡ owners_of j
    pub numbers : desk.view.numbers ≡ drawn

  -- The desk has what the items used since it was given need of other regions, and what they put.
  pub record IsUsed (r : ℕ) (g : Region) : Type 0 where
    pub inputs : (n : ℕ) (i k : Instance) → g.since ≤ n → n < g.position → slice_get (list j r) n ≡ Some (eval_of i) → Contains (needs j i) k → (home j k ≡ home j i → ⊥)
        → WasDelivered g (key_of j k) ⊎ Knows g.desk (key_of j k)
    pub puts : g.numbered ≡ true → (n : ℕ) (i : Instance) → g.since ≤ n → n < g.position → slice_get (list j r) n ≡ Some (put_of i) → Knows g.desk (key_of j i)
    pub mine : g.desk.view.mine ≡ (if g.numbered then words_of (keys_since j r g.since g.position) else [])

  -- It is region r of the job: it stands at a place of its list, and has what the final state says of the items before.
  pub record IsRegionOf (r : ℕ) (g : Region) : Type 0 where
    pub is_region : r ≤ length j.nodes
    pub cursor : IsCursor j g.cursor
    pub rest : left j g.cursor ≡ drop g.position (list j r)
    pub count : g.count ≡ length (list j r)
    pub within : g.position ≤ g.count
    pub behind : IsBehind j r g.position g.values g.bench.room
    pub puts : g.puts.items ≡ keys_at j r g.position
    pub puts_room : length (keys_at j r g.count) ≤ vec_capacity g.puts
    pub empty : vec_len g.bench.stack ≡ 0
    pub stack : IsStackFor j (vec_capacity g.bench.stack)
    pub since : g.since ≤ g.position
    pub desk : IsDesk g.desk (if g.numbered then r ∷ [] else [])
    pub used : IsUsed r g
    pub notebook : HasNotebook j r g.notebook

  -- It is a region of the job, by its number.
  abbrev pub IsRegion : Region → Type 0
  IsRegion g = IsRegionOf (number g) g

  -- It is the region of this number at its opening.
  pub record IsOpening (r : ℕ) (g : Region) : Type 0 where
    pub region : IsRegion g
    pub number : number g ≡ r
    pub position : g.position ≡ 0
    pub since : g.since ≡ 0
    pub nothing : (key : ℕ) → ¬ WasDelivered g key

  -- The region waits for something that its next evaluation needs of another region, that wasn't delivered to it, and that its desk
  -- didn't find.
  pub record IsWaiting (before after : Region) : Type 0 where
    pub item : Instance
    pub next : slice_get (list j (number after)) after.position ≡ Some (eval_of item)
    pub input : Instance
    pub needed : Contains (needs j item) input
    pub far : home j input ≡ home j item → ⊥
    pub undelivered : ¬ WasDelivered after (key_of j input)
    pub missed : Missed before.desk after.desk (key_of j input)

-- The same region with what was delivered to it, and its desk, which goes on.
pub record IsSame (before after : Region) : Type 0 where
  pub number : number after ≡ number before
  pub since : after.since ≡ before.since
  pub numbered : after.numbered ≡ before.numbered
  pub delivered : (key : ℕ) → WasDelivered before key ↔ WasDelivered after key
  pub desk : GoesOn before.desk after.desk
