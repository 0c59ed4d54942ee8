-- A toy of the program: four commands whose answers have what answers of later commands and statuses have.
use Rattle.std.specs.Prelude.{◌≡◌, ◌⊎◌, ◌<◌, ℕ, List, [], ◌∷◌, length, map, codes, Bool, true, false, if◌then◌else◌, Option, Some, None, Result, Ok, Err}
use Rattle.std.specs.Str.{bytes_eq}
use Rattle.lido_base.specs.Phases.{OneOf, Then}
use Rattle.lido_base.specs.declared.ids.StrId.{StrId}
use Rattle.lido_base.specs.declared.kinds.Many.TheVariants as many
use Rattle.lido_base.specs.declared.kinds.WordKind.TheVariants as kind
use Rattle.lido_syntax.specs.declared.fault.SpecFault.TheVariants as fault
use Rattle.order_report.specs.declared.status.Status.{Status}
use Rattle.order_report.specs.declared.status.Status.TheVariants as status
use Rattle.lido_top.specs.Answers.{Answer, Seen, answer_of, written}
use Rattle.lido_top.specs.Calls as calls
use Rattle.lido_top.specs.Endings.{Ending, ending, plainly}

-- the commands: one that looks for a cycle, one that writes messages, one that reads no input, one that writes and then refuses
pub data Command : Type 0 where
  Check : Command
  Run : Command
  Big : Command
  Edit : Command

-- the command of the words, or why there is none
abbrev pub command_of : List (List ℕ) → Result Command Ending
command_of [] = Err (plainly (status.Words 0 kind.Missing))
command_of (w ∷ ws) =
    if bytes_eq w (codes "check") then Ok Check
    else if bytes_eq w (codes "run") then Ok Run
    else if bytes_eq w (codes "big") then Ok Big
    else if bytes_eq w (codes "edit") then Ok Edit
    else Err (plainly (status.Words 0 kind.Unknown))

-- what the words say
abbrev pub Said : List (List ℕ) → Result Command Ending → Type 0
Said words r = r ≡ command_of words

-- each command but `big` reads its input
abbrev pub reads : Command → Bool
reads Big = false
reads _ = true

-- the id of a number
abbrev pub id : ℕ → StrId
id n = record { 0 = n }

-- the status of a cycle along these classes
abbrev pub cycle : List ℕ → Status
cycle path = status.Spec (fault.ClassCycle (map id path))

-- the names of the classes
abbrev pub names : List (List ℕ)
names = codes "A" ∷ codes "B" ∷ codes "C" ∷ []

-- the two cycles of the toy's classes, which are as long as each other
pub data IsCycle : List ℕ → Type 0 where
  first : IsCycle (0 ∷ 1 ∷ 0 ∷ [])
  second : IsCycle (1 ∷ 2 ∷ 1 ∷ [])

-- the size of the input, which has to have a byte
abbrev pub SizeOf : List ℕ → Result ℕ Ending → Type 0
SizeOf bytes = OneOf (λ size. (size ≡ length bytes) × (0 < size)) (plainly status.NoPtg)

-- some cycle of the classes: no text comes, and either cycle is a right answer
abbrev pub CycleOf : ℕ → Result (List ℕ) Ending → Type 0
CycleOf size (Ok text) = ⊥
CycleOf size (Err e) = (path : List ℕ) × IsCycle path × (e ≡ ending names (cycle path))

-- what `run` answers: a text, and messages behind it
abbrev pub with_notes : Answer
with_notes = record { out = codes "26"; notes = codes "2:1 WARNING: b\n"; ending = plainly status.Done }

-- what `edit` answers: it has written the first version, and refuses the next one
abbrev pub written_and_refused : Answer
written_and_refused = record { out = codes "== 0 ==\n"; notes = []; ending = plainly (status.Spec (fault.TooMany many.Nodes)) }

-- the answers of a command to an input, if it reads one
abbrev pub To : Command → Option (List ℕ) → Answer → Type 0
To Check (Some bytes) answer = (r : Result (List ℕ) Ending) × Then (SizeOf bytes) CycleOf r × (answer ≡ answer_of r)
To Run (Some bytes) answer = answer ≡ with_notes
To Edit (Some bytes) answer = answer ≡ written_and_refused
To Big None answer = answer ≡ written (codes "nodes 12\n")
To _ _ answer = ⊥

-- the answer tells a cycle
abbrev pub TellsCycle : Answer → Type 0
TellsCycle answer = (path : List ℕ) × IsCycle path × (answer.ending ≡ ending names (cycle path))

-- two answers to one input are the same, but for the cycle that they tell
abbrev pub IsAlike : Answer → Answer → Type 0
IsAlike a b = (a ≡ b) ⊎ ((a.out ≡ b.out) × (a.notes ≡ b.notes) × TellsCycle a × TellsCycle b)

-- what a call of the toy decides
abbrev pub Decides : List (List ℕ) → Seen → Seen → Answer → Type 0
Decides = calls.Decides IsAlike Said reads To
