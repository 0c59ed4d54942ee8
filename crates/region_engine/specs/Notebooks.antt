-- The messages of a job in the order of notes, and what they tell in the end.
use Rattle.std.specs.Prelude.{◌≡◌, ◌≤◌, ℕ, nat_lt, List, [], if◌then◌else◌, length, vec_capacity, Option, Some, None, option_and_then, Contains, AllPairs}
use Rattle.lido_base.specs.declared.value.Value.{Value}
use Rattle.lido_base.specs.declared.value.Value.TheVariants as value
use Rattle.flat_grammar.specs.WholeOrder.{Instance}
use Rattle.core_machine.specs.declared.finished.Note.{Note}
use Rattle.core_machine.specs.Machine.{final}
use Rattle.core_machine.specs.Core.{Task, IsEarlier, IsMessage, machine, written_at}
use Rattle.core_machine.specs.Faults.{IsBefore}
use Rattle.region_engine.specs.declared.notebook.Message.{Message}
use Rattle.region_engine.specs.declared.notebook.Notebook.{Notebook}

-- the instance of a message
abbrev pub instance_of : Message → Instance
instance_of m = (m.node, m.attr)

-- the note of a value that a message has, where it is a text that isn't empty
abbrev pub note_of : Message → Value → Option Note
note_of m (value.Text d) = if nat_lt 0 d.len then Some (record { node = m.written; text = d }) else None
note_of m _ = None

module _ (j : Task) where
  -- it is one of the job's messages, and has its written node
  abbrev pub IsListed : Message → Type 0
  IsListed m = IsMessage j (instance_of m) × (m.written ≡ written_at j m.node)

  -- The messages of the job, in the order of notes.
  pub record AreMessages (list : List Message) : Type 0 where
    pub sound : (m : Message) → Contains list m → IsListed m
    pub all : (i : Instance) → IsMessage j i → (m : Message) × Contains list m × (instance_of m ≡ i)
    pub ordered : AllPairs (λ (m n : Message). IsEarlier j (instance_of m) (instance_of n)) list

  -- The messages before this place, in the order of instances.
  pub record AreMessagesBefore (n a : ℕ) (list : List Message) : Type 0 where
    pub sound : (m : Message) → Contains list m → IsListed m
    pub before : (m : Message) → Contains list m → IsBefore n a (instance_of m)
    pub all : (i : Instance) → IsBefore n a i → IsMessage j i → (m : Message) × Contains list m × (instance_of m ≡ i)
    pub ordered : AllPairs (λ (m n : Message). IsBefore n.node n.attr (instance_of m)) list

  -- The messages of the job, and space for a note of each.
  pub record IsNotebook (b : Notebook) : Type 0 where
    pub messages : AreMessages b.messages.items
    pub empty : b.notes.items ≡ []
    pub space : length b.messages.items ≤ vec_capacity b.notes

  -- the region of the root has a notebook
  abbrev pub HasNotebook : ℕ → Option Notebook → Type 0
  HasNotebook r o = r ≡ 0 → (b : Notebook) × (o ≡ Some b) × IsNotebook b

  -- the note that a message tells in the end
  abbrev pub told : Message → Option Note
  told m = option_and_then (note_of m) ((final (machine j)).values (instance_of m))
