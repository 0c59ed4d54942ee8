-- Which answer a call of lido follows: the words say a command, a command answers an input, or answers by itself.
use Rattle.std.specs.Prelude.{◌≡◌, ◌<◌, ◌≤◌, ℕ, List, length, Bool, true, false, Option, Some, None, Result, Ok, Err}
use Rattle.std.specs.Io.KnownBytes.{Keeps}
use Rattle.lido_base.specs.Causes.{Rose}
use Rattle.lido_base.specs.Inputs.{most, TakesAll, TakesAtMost, TakesTooMany}
use Rattle.lido_base.specs.Phases.{IsThe}
use Rattle.order_report.specs.declared.status.Status.TheVariants as status
use Rattle.lido_top.specs.Endings.{Ending, plainly, no_memory}
use Rattle.lido_top.specs.Answers.{Answer, Seen, refusal}

-- What was taken of the source is the input: all its bytes where the command reads it, and nothing where it doesn't.
abbrev pub IsTaken : Bool → Option (List ℕ) → Seen → Seen → Type 0
IsTaken true (Some bytes) src src' = TakesAll src.bytes src'.bytes bytes
IsTaken false None src src' = Keeps src.bytes src'.bytes
IsTaken _ _ src src' = ⊥

-- `Said` is the command that words say, or why they say none; `reads` tells whether it reads its input; `To` are its answers to an
-- input, of which there may be several as far as they are alike.
module _ {Command : Type 0} (IsAlike : Answer → Answer → Type 0) (Said : List (List ℕ) → Result Command Ending → Type 0) (reads : Command → Bool)
    (To : Command → Option (List ℕ) → Answer → Type 0) where
  -- one of the answers to the input, and each other one is alike
  pub record IsOneOf (command : Command) (input : Option (List ℕ)) (answer : Answer) : Type 0 where
    pub is : To command input answer
    pub others : (other : Answer) → To command input other → IsAlike other answer

  -- What a call decides by the words and by what it takes of the source: the words are at fault; the input is too long; the source fails;
  -- or it has one of the answers to the input. Want of memory may end it anywhere.
  pub data Decides (words : List (List ℕ)) (src src' : Seen) : Answer → Type 0 where
    words_fail : {e : Ending} → IsThe (Said words) (Err e) → Keeps src.bytes src'.bytes → Decides words src src' (refusal e)
    too_long : (c : Command) → IsThe (Said words) (Ok c) → reads c ≡ true → TakesTooMany src.bytes src'.bytes → Decides words src src' (refusal (plainly status.InputTooLong))
    source_fails : (c : Command) → IsThe (Said words) (Ok c) → reads c ≡ true → TakesAtMost most src.bytes src'.bytes → Rose src.faults src'.faults → Decides words src src' (refusal (plainly status.ReadFault))
    answers : (c : Command) (input : Option (List ℕ)) {answer : Answer} → IsThe (Said words) (Ok c) → IsTaken (reads c) input src src' → IsOneOf c input answer
        → Decides words src src' answer
    memory_ends : Decides words src src' (refusal no_memory)

  -- The answers that these words and a source of these bytes call for.
  pub data IsAnswer (words : List (List ℕ)) (bytes : List ℕ) : Answer → Type 0 where
    of_words : {e : Ending} → Said words (Err e) → IsAnswer words bytes (refusal e)
    of_length : (c : Command) → Said words (Ok c) → reads c ≡ true → most < length bytes → IsAnswer words bytes (refusal (plainly status.InputTooLong))
    of_input : (c : Command) {answer : Answer} → Said words (Ok c) → reads c ≡ true → length bytes ≤ most → To c (Some bytes) answer → IsAnswer words bytes answer
    alone : (c : Command) {answer : Answer} → Said words (Ok c) → reads c ≡ false → To c None answer → IsAnswer words bytes answer
