-- The rule of the table. Each key has two words, which are 0 until the key's region stores its code; behind them stands the
-- counter, from which desks draw numbers. The rule holds between any two steps of any threads.
use Rattle.std.specs.Prelude.{◌≡◌, ◌≢◌, ℕ, ◌+◌, ◌/◌, ◌<◌, ◌==◌, ◌||◌, Bool, true, false, List, [], ◌∷◌, ◌++◌, if◌then◌else◌, length, slice_index, ◌⊎◌}
use mathlib.Core.Option.{some}
use lib.ListN.{get_elem?}
use Rattle.atomic_table.specs.Table.{State, Me, Step}
use Rattle.lido_base.specs.declared.value.Value.{Value}
use Rattle.boundary_table.specs.Codes.{code}
use Rattle.boundary_table.specs.declared.plays.View.{View}

-- A list stands for the set of its elements.
abbrev pub mem : ℕ → List ℕ → Bool
mem w [] = false
mem w (x ∷ xs) = (x == w) || mem w xs

-- The region that stores word w: the owner of its key.
abbrev pub owner : List ℕ → ℕ → ℕ
owner owners w = slice_index owners (w / 2)

abbrev pub Place : Type 0
Place = State (Unit {0}) View

-- The seat of a table that has no contents yet.
abbrev pub blank : View
blank = record { stage = 0; contents = []; owners = []; known = []; mine = []; numbers = []; loads = 0; last = 0; found = 0 }

-- A desk that knows the contents and their owners, and nothing of the words.
abbrev pub opened : List Value → List ℕ → View
opened contents owners = record { stage = 1; contents = contents; owners = owners; known = []; mine = []; numbers = []; loads = 0; last = 0; found = 0 }

-- What was a seat, and is none any more.
abbrev pub spent : View
spent = record { stage = 2; contents = []; owners = []; known = []; mine = []; numbers = []; loads = 0; last = 0; found = 0 }

-- Until the first desk is cut from its seat, a table has that seat alone, and all words are 0.
pub record Fresh (n : ℕ) (s : Place) : Type 0 where
  pub size : length s.words ≡ n + 1
  pub alone : s.views ≡ blank ∷ []
  pub zero_all : (w : ℕ) → slice_index s.words w ≡ 0

-- What a desk knows is so: all desks have the same contents; a known word is its code; the desk's numbers were drawn; and each
-- word that is stored under one of its numbers is among those that it stored.
pub record Good (n : ℕ) (contents : List Value) (owners words : List ℕ) (v : View) : Type 0 where
  pub begun : v.stage ≢ 0
  pub same : v.stage ≡ 1 → (v.contents ≡ contents) × (v.owners ≡ owners)
  pub knows : v.stage ≡ 1 → (w : ℕ) → mem w v.known ≡ true → (w < n) × (slice_index words w ≡ code contents w)
  pub below : v.stage ≡ 1 → (k : ℕ) → mem k v.numbers ≡ true → k < slice_index words n
  pub stored : v.stage ≡ 1 → (w : ℕ) → w < n → slice_index words w ≢ 0 → mem (owner owners w) v.numbers ≡ true → mem w v.mine ≡ true

-- No number is with two desks.
abbrev pub Apart : View → View → Type 0
Apart v u = v.stage ≡ 1 → u.stage ≡ 1 → (k : ℕ) → mem k v.numbers ≡ true → mem k u.numbers ≡ true → ⊥

-- A table with contents: each word is 0 or its code, and the owner of one that isn't 0 was drawn.
pub record Filled (n : ℕ) (contents : List Value) (owners : List ℕ) (s : Place) : Type 0 where
  pub size : length s.words ≡ n + 1
  pub nonzero : (w : ℕ) → w < n → code contents w ≢ 0
  pub fits : (w : ℕ) → w < n → (slice_index s.words w ≡ 0) ⊎ (slice_index s.words w ≡ code contents w)
  pub owned : (w : ℕ) → w < n → slice_index s.words w ≢ 0 → owner owners w < slice_index s.words n
  pub good : (id : ℕ) (v : View) → get_elem? s.views id ≡ some v → Good n contents owners s.words v
  pub apart : (i j : ℕ) (v u : View) → get_elem? s.views i ≡ some v → get_elem? s.views j ≡ some u → i ≢ j → Apart v u

-- The rule of a table with n code words.
abbrev pub Kept : ℕ → Place → Type 0
Kept n s = Fresh n s ⊎ ((contents : List Value) × (owners : List ℕ) × Filled n contents owners s)

-- Word w was loaded, and x found.
abbrev pub after_load : View → ℕ → ℕ → View
after_load v w x = record v { known = if x == 0 then v.known else w ∷ v.known; loads = v.loads + 1; last = w; found = x }

-- Word w was stored.
abbrev pub after_store : View → ℕ → View
after_store v w = record v { known = w ∷ v.known; mine = w ∷ v.mine }

-- Number k was wanted of the counter, the word c, and x found there.
abbrev pub after_draw : View → ℕ → ℕ → ℕ → View
after_draw v c k x = record v { numbers = if x == k then k ∷ v.numbers else v.numbers; loads = v.loads + 1; last = c; found = x }

-- Two desks became one.
abbrev pub joined : View → View → View
joined v u = record v { known = v.known ++ u.known; mine = v.mine ++ u.mine; numbers = v.numbers ++ u.numbers }

-- A load tells the new view, that a word is 0 or its code, and that a known one is its code.
abbrev pub looked : Step (Unit {0}) → Me (Unit {0}) View → ℕ → Me (Unit {0}) View → Type 0
looked st m x m' = (m' ≡ (after_load m.0 st.word x, m.1)) × ((x ≡ 0) ⊎ (x ≡ code m.0.contents st.word)) × (mem st.word m.0.known ≡ true → x ≡ code m.0.contents st.word)

abbrev pub stored : Step (Unit {0}) → Me (Unit {0}) View → ℕ → Me (Unit {0}) View → Type 0
stored st m x m' = m' ≡ (after_store m.0 st.word, m.1)

abbrev pub drawn : Step (Unit {0}) → Me (Unit {0}) View → ℕ → Me (Unit {0}) View → Type 0
drawn st m x m' = m' ≡ (after_draw m.0 st.word st.first x, m.1)

-- Each word that the desk knows and whose owner is among its numbers was stored by it.
abbrev pub Owns : View → Type 0
Owns v = (w : ℕ) → mem w v.known ≡ true → mem (owner v.owners w) v.numbers ≡ true → mem w v.mine ≡ true

-- A load that changes no view tells what the rule says of the desk's own.
abbrev pub learned : Step (Unit {0}) → Me (Unit {0}) View → ℕ → Me (Unit {0}) View → Type 0
learned st m x m' = (m' ≡ m) × Owns m.0
