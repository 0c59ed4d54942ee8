-- What a region has behind the first items of its list, by the final state.
use Rattle.std.specs.Prelude.{ℕ, ◌+◌, ◌*◌, List, [], ◌∷◌, if◌then◌else◌, fold, flat_map, take, drop}
use Rattle.string_librarian.specs.Rooms.{Deposit}
use Rattle.flat_grammar.specs.WholeOrder.{Instance}
use Rattle.core_machine.specs.declared.cursor.Item.{Item as Named}
use Rattle.core_machine.specs.declared.cursor.Item.TheVariants as named
use Rattle.core_machine.specs.Machine.{Item, own, final}
use Rattle.core_machine.specs.Core.{Task, gives, items, machine}
use Rattle.core_machine.specs.Keys.{key_of}
use Rattle.core_machine.specs.Runs.{cost_in}

module _ (j : Task) where
  -- the items of a region, in order
  abbrev pub list : ℕ → List (Item Instance)
  list r = own (machine j) r (items j)

  -- the room behind an item, with the values of the final state
  abbrev pub room_behind : List Deposit → Item Instance → List Deposit
  room_behind room x = if x.is_put then room else (gives j x.makes (final (machine j)).values room).1

  -- the room of a region behind so many of its items
  abbrev pub room_at : ℕ → ℕ → List Deposit
  room_at r n = fold room_behind [] (take n (list r))

  -- the key under which an item puts something
  abbrev pub put_key : Item Instance → List ℕ
  put_key x = if x.is_put then key_of j x.makes ∷ [] else []

  -- the keys that these items put, in order
  abbrev pub keys_of : List (Item Instance) → List ℕ
  keys_of some = flat_map put_key some

  -- the keys that so many items of a region put
  abbrev pub keys_at : ℕ → ℕ → List ℕ
  keys_at r n = keys_of (take n (list r))

  -- those of them that the items from another place on put
  abbrev pub keys_since : ℕ → ℕ → ℕ → List ℕ
  keys_since r since n = keys_of (drop since (take n (list r)))

  -- the text cells that an item needs
  abbrev pub cost_of : ℕ → Item Instance → ℕ
  cost_of r x = if x.is_put then 0 else cost_in j r x.makes

-- the key of a put, as a cursor names it
abbrev pub named_keys : Named → List ℕ
named_keys (named.Put key) = key ∷ []
named_keys (named.Eval n o) = []

-- the words of the table under these keys, those of the last key first
abbrev pub words_of : List ℕ → List ℕ
words_of keys = fold (λ words k. (2 * k + 1) ∷ 2 * k ∷ words) [] keys
