-- The attributes of the symbols of the flat grammar: the written ones, and behind them those that the expansions add.
use Rattle.std.specs.Prelude.{◌≡◌, ℕ, zero, suc, ◌+◌, ◌*◌, ◌<◌, ◌⊎◌, ◌↔◌, Bool, true, false, ◌&&◌, nat_eq, IsTrue, List, map, length, Some, slice_get, AllPairs, Contains}
use Rattle.lido_syntax.specs.declared.spec.Spec.{Spec}
use Rattle.lido_syntax.specs.declared.spec.Pair.{Pair}
use Rattle.lido_syntax.specs.declared.spec.Cons.{Cons}
use Rattle.lido_syntax.specs.declared.spec.Typed1.{Typed1}
use Rattle.lido_syntax.specs.declared.spec.RuleItem.{RuleItem}
use Rattle.lido_syntax.specs.Production.{name_of, left_of}
use Rattle.lido_syntax.specs.Computation.{messages_of}
use Rattle.lido_syntax.specs.Symbols.{IsNonterminal, IsRoot}
use Rattle.lido_syntax.specs.Attributes.{Has}
use Rattle.lido_symbols.specs.Numbers.{place_in}
use Rattle.rule_tables.specs.Needs.{Tables, Needs}

-- What an attribute of the flat grammar is: a written one, by its name; INCLUDING of a set, by its number; CONSTITUENTS, by its
-- number in the text; what a chain has in front and behind, by its name; a message, which are counted from 1; or the output.
pub data Slot : Type 0 where
  Written : ℕ → Slot
  Inc : ℕ → Slot
  Con : ℕ → Slot
  Front : ℕ → Slot
  Behind : ℕ → Slot
  Msg : ℕ → Slot
  Out : Slot

abbrev pub is_same_slot : Slot → Slot → Bool
is_same_slot (Written a) (Written b) = nat_eq a b
is_same_slot (Inc a) (Inc b) = nat_eq a b
is_same_slot (Con a) (Con b) = nat_eq a b
is_same_slot (Front a) (Front b) = nat_eq a b
is_same_slot (Behind a) (Behind b) = nat_eq a b
is_same_slot (Msg a) (Msg b) = nat_eq a b
is_same_slot Out Out = true
is_same_slot _ _ = false

module _ (spec : Spec) (T : Tables spec) (needs : Needs spec T) where
  -- a symbol that has the attribute of a CONSTITUENTS
  abbrev pub has_con : Cons → ℕ → Bool
  has_con k x = needs.wanted k x && needs.reaches k x

  abbrev pub chains : List ℕ
  chains = map (λ (c : Typed1). name_of c.name) spec.chains

  -- some rule of the symbol has that many plain computations
  abbrev pub HasMessage : ℕ → ℕ → Type 0
  HasMessage s zero = ⊥
  HasMessage s (suc j) = (r : RuleItem) × Contains spec.rules r × (left_of r ≡ s) × (j < length (messages_of r))

  -- the symbol of that number has the attribute
  abbrev pub HasSlot : ℕ → Slot → Type 0
  HasSlot x (Written a) = (s : ℕ) × (slice_get T.symbols x ≡ Some s) × IsNonterminal spec s × Has spec s a
  HasSlot x (Inc i) = (pairs : List Pair) × (slice_get T.includings i ≡ Some pairs) × IsTrue (needs.including pairs x)
  HasSlot x (Con n) = (k : Cons) × Contains T.constituents k × (k.number ≡ n) × IsTrue (has_con k x)
  HasSlot x (Front c) = Contains chains c × IsTrue (needs.chain c x)
  HasSlot x (Behind c) = Contains chains c × IsTrue (needs.chain c x)
  HasSlot x (Msg j) = (s : ℕ) × (slice_get T.symbols x ≡ Some s) × HasMessage s j
  HasSlot x Out = (s : ℕ) × (slice_get T.symbols x ≡ Some s) × IsRoot spec s

  -- where an attribute stands among those of its symbol: by what it is, then by number
  abbrev pub group : Slot → ℕ
  group (Written a) = 0
  group (Inc i) = 1
  group (Con n) = 2
  group (Front c) = 3
  group (Behind c) = 3
  group (Msg j) = 4
  group Out = 5

  abbrev pub within : Slot → ℕ
  within (Written a) = place_in (nat_eq a) T.attributes
  within (Inc i) = i
  within (Con n) = n
  within (Front c) = 2 * place_in (nat_eq c) chains
  within (Behind c) = 2 * place_in (nat_eq c) chains + 1
  within (Msg j) = j
  within Out = 0

  abbrev pub IsBefore : Slot → Slot → Type 0
  IsBefore s t = (group s < group t) ⊎ ((group s ≡ group t) × (within s < within t))

  -- the attributes of each symbol, cells too, in order
  pub record AreSlots (slots : ℕ → List Slot) : Type 0 where
    pub all : (x : ℕ) (s : Slot) → Contains (slots x) s ↔ HasSlot x s
    pub in_order : (x : ℕ) → AllPairs IsBefore (slots x)
