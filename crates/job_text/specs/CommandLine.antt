-- The rule of command lines: what is wrong with a word, which word decides, and the command of a line without a fault. Our own.
use Rattle.std.specs.Prelude.{◌≡◌, ℕ, ◌<◌, List, map, take, filter, find, false, not, ◌&&◌, if◌then◌else◌, Option, Some, None, option_map, unwrap_or, slice_get, Result, Ok, Err}
use Rattle.std.specs.List.{list_any, enumerate_from}
use Rattle.lido_base.specs.declared.kinds.WordKind.{WordKind}
use Rattle.lido_base.specs.declared.kinds.WordKind.TheVariants.{Missing, Unknown, Repeated, Range}
use Rattle.job_text.specs.declared.forms.Verb.{Verb}
use Rattle.job_text.specs.declared.forms.Verb.TheVariants as verb
use Rattle.job_text.specs.declared.forms.Form.{Form}
use Rattle.job_text.specs.declared.forms.Form.TheVariants.{Count, Workers, Split, Min, Patience}
use Rattle.job_text.specs.declared.command_line.Command.{Command}
use Rattle.job_text.specs.declared.command_line.Command.TheVariants as command
use Rattle.job_text.specs.declared.command_line.RunWords.{RunWords}
use Rattle.job_text.specs.declared.command_line.WordsFault.{WordsFault}
use Rattle.job_text.specs.declared.command_line.WordsFault.TheVariants as fault
use Rattle.job_text.specs.Forms.{first_verb, has_form, number_of, is_outside, is_repeatable, is_needed, allowed}

-- What is wrong with a word that has this form, or none of those that are allowed at its place, behind these words.
abbrev pub fault_of : List (List ℕ) → List ℕ → Option Form → Option WordKind
fault_of before word None = Some Unknown
fault_of before word (Some form) =
    if not (is_repeatable form) && list_any (has_form form) before then Some Repeated
    else if is_outside form word then Some Range
    else None

-- What is wrong at a place, by the forms that are allowed there, the words before it, and the word there if there is one.
abbrev pub fault_in : List Form → List (List ℕ) → Option (List ℕ) → Option WordKind
fault_in forms before None = if list_any is_needed forms then Some Missing else None
fault_in forms before (Some word) = fault_of before word (find (λ form. has_form form word) forms)

-- What is wrong at an index.
unfoldable pub fault_at : List (List ℕ) → ℕ → Option WordKind
fault_at words index = fault_in (allowed (first_verb words) index) (take index words) (slice_get words index)

-- The number of the word that has the form, or else this.
unfoldable pub number_or : ℕ → Form → List (List ℕ) → ℕ
number_or default form words = unwrap_or (option_map (number_of form) (find (has_form form) words)) default

-- The number of the first word that has the form is in its range.
abbrev pub IsInside : Form → List (List ℕ) → Type 0
IsInside form words = (word : List ℕ) → find (has_form form) words ≡ Some word → is_outside form word ≡ false

-- The indices of the words that name a symbol to split at.
unfoldable pub splits : List (List ℕ) → List ℕ
splits words = map (λ p. p.0) (filter (λ p. has_form Split p.1) (enumerate_from 0 words))

-- What the words behind `run` say.
abbrev pub run_words : List (List ℕ) → RunWords
run_words words = record { workers = number_or 1 Workers words; split = splits words; min = number_or 1 Min words; patience = number_or 4 Patience words }

-- The command that a line without a fault gives.
abbrev pub command_of : Verb → List (List ℕ) → Command
command_of verb.Check words = command.Check
command_of verb.Order words = command.Order
command_of verb.Run words = command.Run (run_words words)
command_of verb.Big words = command.Big (number_or 1 Count words) (number_or 1 Workers words)

-- This is wrong at this index, and nothing at the earlier ones.
pub record IsFirstFault (words : List (List ℕ)) (index : ℕ) (kind : WordKind) : Type 0 where
  pub wrong : fault_at words index ≡ Some kind
  pub before : (k : ℕ) → k < index → fault_at words k ≡ None

-- Nothing is wrong at any index, and this is the command.
pub record IsCommand (words : List (List ℕ)) (c : Command) : Type 0 where
  pub right : (k : ℕ) → fault_at words k ≡ None
  pub is : option_map (λ v. command_of v words) (first_verb words) ≡ Some c

-- What the words of a command line give: a command, or the first fault.
abbrev pub WordsOf : List (List ℕ) → Result Command WordsFault → Type 0
WordsOf words (Ok c) = IsCommand words c
WordsOf words (Err (fault.Words index kind)) = IsFirstFault words index kind
WordsOf words (Err fault.Memory) = ⊥
