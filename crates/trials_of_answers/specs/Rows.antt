-- What each status says of what was read and written, by the kind of the status; and the toy with one status more.
use Rattle.std.specs.Prelude.{◌≡◌, ◌≢◌, ◌<◌, ℕ, List, [], length, take, codes, Option, Some}
use Rattle.lido_base.specs.Causes.{Rose}
use Rattle.order_report.specs.declared.status.Status.{Status}
use Rattle.order_report.specs.declared.status.Status.TheVariants as status
use Rattle.order_report.specs.declared.status.Which.{Which}
use Rattle.order_report.specs.declared.status.Which.TheVariants as which
use Rattle.order_report.specs.Lines.{line_of}
use Rattle.lido_top.specs.Answers.{Answer, Seen, Took, on_err, refusal}
use Rattle.lido_top.specs.Calls as calls
use Rattle.lido_top.specs.Endings.{nameless, plainly}
use Rattle.trials_of_answers.specs.Toy.{Command, Run, Said, To, IsAlike, reads}

-- the kinds: a status of the source, one of a sink, and one that an answer has
pub data Kind : Type 0 where
  OfSource : Kind
  OfSink : Which → ℕ → Kind
  OfAnswer : Kind

-- each status but those of the source and of a sink is one that an answer has
abbrev pub kind_of : Status → Kind
kind_of status.ReadFault = OfSource
kind_of (status.WriteFault sink n) = OfSink sink n
kind_of _ = OfAnswer

-- What a status says, by its kind: the source failed, and its line was written; a sink failed behind a front of its text; or the
-- status is that of the answer, and all of the answer was written.
abbrev pub Row : (decided : Answer) (src later out out' err err' : Seen) (s : Status) → Kind → Type 0
Row decided src later out out' err err' s OfSource = Rose src.faults later.faults × Took out out' [] × Took err err' (line_of [] status.ReadFault)
Row decided src later out out' err err' s (OfSink which.Out n) = Rose out.faults out'.faults × (n < length decided.out) × Took out out' (take n decided.out)
Row decided src later out out' err err' s (OfSink which.Err n) = Rose err.faults err'.faults × Took out out' decided.out
Row decided src later out out' err err' s OfAnswer = (nameless s ≡ decided.ending.status) × Took out out' decided.out × Took err err' (on_err decided)

-- the row of a status
abbrev pub HasRow : (decided : Answer) (src later out out' err err' : Seen) (s : Status) → Type 0
HasRow decided src later out out' err err' s = Row decided src later out out' err err' s (kind_of s)

-- ---- one status more

-- the toy, but `run` refuses the input `y`, which has no tree
pub data ToMore : Command → Option (List ℕ) → Answer → Type 0 where
  as_before : {c : Command} {input : Option (List ℕ)} {answer : Answer} → input ≢ Some (codes "y") → To c input answer → ToMore c input answer
  refuses : ToMore Run (Some (codes "y")) (refusal (plainly status.NoTree))

-- what a call of this toy decides
abbrev pub DecidesMore : List (List ℕ) → Seen → Seen → Answer → Type 0
DecidesMore = calls.Decides IsAlike Said reads ToMore
