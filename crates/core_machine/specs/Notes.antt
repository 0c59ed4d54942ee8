-- The messages among the values of a list.
use Rattle.std.specs.Prelude.{◌≡◌, ◌<◌, ℕ, nat_lt, List, Option, Some, None, if◌then◌else◌, Contains, AllPairs}
use Rattle.lido_base.specs.declared.value.Value.{Value}
use Rattle.lido_base.specs.declared.value.Value.TheVariants as value
use Rattle.lido_base.specs.declared.value.Desc.{Desc}
use Rattle.flat_grammar.specs.declared.flat.FlatAttr.{FlatAttr}
use Rattle.flat_grammar.specs.WholeOrder.{Instance}
use Rattle.core_machine.specs.declared.notes.Entry.{Entry}
use Rattle.core_machine.specs.Core.{Task, Note, IsEarlier, IsMessage, written_at}
use Rattle.core_machine.specs.Slots.{found}
use Rattle.core_machine.specs.Faults.{IsBefore}

-- the text of a message, where it isn't empty
abbrev pub message_of : FlatAttr → Value → Option Desc
message_of attr (value.Text d) = if attr.message then (if nat_lt 0 d.len then Some d else None) else None
message_of attr _ = None

-- the instance of an entry
abbrev pub instance_of : Entry → Instance
instance_of e = (e.node, e.attr)

-- the note of an entry
abbrev pub note_of : Entry → Note
note_of e = record { node = e.written; text = e.text }

module _ (j : Task) (values : List Value) where
  -- the entry is of a message, and has its written node and its text, which isn't empty
  pub record IsEntry (e : Entry) : Type 0 where
    pub message : IsMessage j (instance_of e)
    pub stored : found j values (instance_of e) ≡ Some (value.Text e.text)
    pub some : 0 < e.text.len
    pub written : e.written ≡ written_at j e.node

  -- the entries are those of the instances before this place, in their order
  pub record AreEntries (n a : ℕ) (entries : List Entry) : Type 0 where
    pub sound : (e : Entry) → Contains entries e → IsEntry e
    pub before : (e : Entry) → Contains entries e → IsBefore n a (instance_of e)
    pub all : (i : Instance) (d : Desc) → IsBefore n a i → IsMessage j i → found j values i ≡ Some (value.Text d) → 0 < d.len → (e : Entry) × Contains entries e × (instance_of e ≡ i)
    pub ordered : AllPairs (λ (e f : Entry). IsBefore f.node f.attr (instance_of e)) entries

  -- the entries are those of all messages, by written nodes, then by their instances
  pub record AreAllEntries (entries : List Entry) : Type 0 where
    pub sound : (e : Entry) → Contains entries e → IsEntry e
    pub all : (i : Instance) (d : Desc) → IsMessage j i → found j values i ≡ Some (value.Text d) → 0 < d.len → (e : Entry) × Contains entries e × (instance_of e ≡ i)
    pub ordered : AllPairs (λ (e f : Entry). IsEarlier j (instance_of e) (instance_of f)) entries
