-- What a call of lido has to do, and how far it comes.
use Rattle.std.specs.Prelude.{◌≡◌, ◌⊎◌, ◌<◌, ◌++◌, ℕ, List, [], length, take, Option, Result, Ok, Err}
use Rattle.std.specs.Io.KnownBytes.{Appends}
use Rattle.lido_base.specs.Causes.{Rose}
use Rattle.order_report.specs.declared.status.Status.{Status}
use Rattle.order_report.specs.declared.status.Status.TheVariants as status
use Rattle.order_report.specs.declared.status.Which.TheVariants as which
use Rattle.order_report.specs.Lines.{line_of}
use Rattle.order_report.specs.Writing.{TakesPart}
use Rattle.lido_top.specs.Endings.{Ending, nameless, plainly}

-- An answer: what goes to out, what goes to err behind it, and how the call ends. Its line goes to err last.
pub record Answer : Type 0 where
  pub out : List ℕ
  pub notes : List ℕ
  pub ending : Ending

-- the answer that has a text
abbrev pub written : List ℕ → Answer
written text = record { out = text; notes = []; ending = plainly status.Done }

-- the answer that refuses, and writes its line alone
abbrev pub refusal : Ending → Answer
refusal e = record { out = []; notes = []; ending = e }

-- the answer of phases that give a text or a refusal
abbrev pub answer_of : Result (List ℕ) Ending → Answer
answer_of (Ok text) = written text
answer_of (Err e) = refusal e

-- all that goes to err
abbrev pub on_err : Answer → List ℕ
on_err answer = answer.notes ++ answer.ending.line

-- What is seen of a source or of a sink: the bytes that are left in it or that it took, if it tells them, and its count of faults.
pub record Seen : Type 0 where
  pub bytes : Option (List ℕ)
  pub faults : ℕ

-- a source or a sink with these bytes and this count of faults
abbrev pub seen : Option (List ℕ) → ℕ → Seen
seen bytes faults = record { bytes = bytes; faults = faults }

-- the sink took these bytes
abbrev pub Took : Seen → Seen → List ℕ → Type 0
Took old new bytes = Appends old.bytes new.bytes bytes

-- the sink failed in the call, behind n bytes of these
abbrev pub Failed : Seen → Seen → List ℕ → ℕ → Type 0
Failed old new bytes n = TakesPart bytes old.bytes new.bytes n × Rose old.faults new.faults

-- What was written of an answer, by the status that the call gives: all of it, and then the status is the answer's; or out failed behind
-- a front of its text, and the line of that went to err as far as err took it; or out took its text, and err failed behind a front of
-- what goes there.
pub data Follows (answer : Answer) (out out' err err' : Seen) : Status → Type 0 where
  whole : {s : Status} → Took out out' answer.out → Took err err' (on_err answer) → nameless s ≡ answer.ending.status → Follows answer out out' err err' s
  out_fails : {n : ℕ} → n < length answer.out → Took out out' (take n answer.out) → Rose out.faults out'.faults
      → Took err err' (line_of [] (status.WriteFault which.Out n)) ⊎ ((m : ℕ) × Failed err err' (line_of [] (status.WriteFault which.Out n)) m)
      → Follows answer out out' err err' (status.WriteFault which.Out n)
  err_fails : {n : ℕ} → Took out out' answer.out → Failed err err' (on_err answer) n → Follows answer out out' err err' (status.WriteFault which.Err n)

-- a fault of the source or of a sink, or want of memory
abbrev pub IsOutside : Status → Type 0
IsOutside status.ReadFault = Unit {0}
IsOutside (status.WriteFault sink n) = Unit {0}
IsOutside status.Memory = Unit {0}
IsOutside _ = ⊥
