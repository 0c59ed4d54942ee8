-- The words of the command line.
use Rattle.std.specs.Prelude.{◌≡◌, ℕ, List, [], ◌∷◌, codes, Result}
use Rattle.lido_base.specs.Phases.{OneOf, Then, Wrapped}
use Rattle.job_text.specs.declared.command_line.Command.{Command}
use Rattle.job_text.specs.declared.command_line.WordsFault.{WordsFault}
use Rattle.job_text.specs.declared.command_line.WordsFault.TheVariants as fault
use Rattle.job_text.specs.CommandLine.{WordsOf}
use Rattle.order_report.specs.declared.status.Status.TheVariants as status
use Rattle.lido_top.specs.Endings.{Ending, plainly, no_memory}

-- how a call ends by a fault of the words
abbrev pub of_words : WordsFault → Ending
of_words (fault.Words index kind) = plainly (status.Words index kind)
of_words fault.Memory = no_memory

-- the command of the words, or the first fault in them
unfoldable pub SaidOf : List (List ℕ) → Result Command Ending → Type 0
SaidOf words = Wrapped of_words (WordsOf words)

-- the command, where it is built: so far that of the one word `run`
unfoldable pub BuiltOf : List (List ℕ) → Command → Result Command Ending → Type 0
BuiltOf words command = OneOf (λ built. (built ≡ command) × (words ≡ codes "run" ∷ [])) (plainly status.FirstPathOnly)

-- the command of the words, or the refusal of words that say none, or none that is built
unfoldable pub CommandOf : List (List ℕ) → Result Command Ending → Type 0
CommandOf words = Then (SaidOf words) (BuiltOf words)
