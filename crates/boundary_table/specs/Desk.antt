-- What contracts see of a desk and of a table.
use Rattle.std.specs.Prelude.{All, ◌≡◌, ℕ, ◌+◌, ◌*◌, ◌<◌, ◌≤◌, true, List, ◌∷◌, length, slice_index, ◌⊎◌}
use Rattle.atomic_table.specs.Seated.{TableId}
use Rattle.lido_base.specs.declared.value.Value.{Value}
use Rattle.lido_base.specs.Ranges.{IsInRange}
use Rattle.boundary_table.specs.declared.plays.View.{View}
use Rattle.boundary_table.specs.Rule.{mem, opened, joined}
use Rattle.boundary_table.specs.Rule.{Owns as OwnsWords}

-- Which table it is.
abbrev pub Which : Type 0
Which = TableId

-- The table has two words for each value, which is in range, and the counter.
abbrev pub IsTableOf : Which → List Value → Type 0
IsTableOf t contents = (t.words ≡ 2 * length contents + 1) × All IsInRange contents

-- A desk: its table, and what it knows of it.
pub record Held : Type 0 where
  pub table : Which
  pub view : View

-- The desk has found or stored the value of the key.
abbrev pub Knows : Held → ℕ → Type 0
Knows d k = (mem (2 * k) d.view.known ≡ true) × (mem (2 * k + 1) d.view.known ≡ true)

-- The region that stores the key is among the desk's numbers.
abbrev pub IsOwner : Held → ℕ → Type 0
IsOwner d k = mem (slice_index d.view.owners k) d.view.numbers ≡ true

-- The same desk of the same table, which knows all that it knew.
pub record GoesOn (d e : Held) : Type 0 where
  pub table : e.table ≡ d.table
  pub contents : e.view.contents ≡ d.view.contents
  pub owners : e.view.owners ≡ d.view.owners
  pub loads : d.view.loads ≤ e.view.loads
  pub known : (w : ℕ) → mem w d.view.known ≡ true → mem w e.view.known ≡ true

-- The desk has stored what it had stored, under the numbers that it had.
abbrev pub StoresNothing : Held → Held → Type 0
StoresNothing d e = (e.view.mine ≡ d.view.mine) × (e.view.numbers ≡ d.view.numbers)

-- Just the value of the key joined what the desk has stored.
abbrev pub StoresKey : Held → Held → ℕ → Type 0
StoresKey d e k = (e.view.mine ≡ (2 * k + 1) ∷ 2 * k ∷ d.view.mine) × (e.view.numbers ≡ d.view.numbers)

-- The last load was made by this step; it was of a word of the key, and found 0. The desk didn't know the key.
pub record Missed (d e : Held) (k : ℕ) : Type 0 where
  pub loaded : d.view.loads < e.view.loads
  pub last : (e.view.last ≡ 2 * k) ⊎ (e.view.last ≡ 2 * k + 1)
  pub found : e.view.found ≡ 0
  pub unknown : ¬ Knows d k

-- One load was made; it was of the counter, which stands behind the words of all keys, and found x.
pub record FoundCounter (d e : Held) (x : ℕ) : Type 0 where
  pub loaded : e.view.loads ≡ d.view.loads + 1
  pub last : e.view.last ≡ 2 * length d.view.contents
  pub found : e.view.found ≡ x

-- What the desk has found and stored stays as it is.
abbrev pub FindsNothing : Held → Held → Type 0
FindsNothing d e = (e.view.known ≡ d.view.known) × (e.view.mine ≡ d.view.mine)

-- A desk of the table that knows the contents and their owners and nothing else.
abbrev pub desk_of : Which → List Value → List ℕ → Held
desk_of t contents owners = record { table = t; view = opened contents owners }

-- One desk with what both know, have stored and drew.
abbrev pub together : Held → Held → Held
together d e = record { table = d.table; view = joined d.view e.view }

-- Each value that the desk knows and that a region among its numbers stores, it has stored itself.
abbrev pub Owns : Held → Type 0
Owns d = OwnsWords d.view
