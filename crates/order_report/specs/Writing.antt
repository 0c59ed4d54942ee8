-- What a sink has taken of a text.
use Rattle.std.specs.Prelude.{◌≡◌, ◌<◌, ◌≤◌, ◌+◌, ◌-◌, ◌^◌, ◌++◌, ℕ, min, List, length, take, Option, Result, IfOk, IfErr, OnErr}
use Rattle.std.specs.Io.KnownBytes.{Appends}
use Rattle.lido_base.specs.Causes.{Rose}
use Rattle.lido_base.specs.declared.whole.WriteFault.{WriteFault}

-- The last value of a `u64`, at which a count stands still.
abbrev pub last : ℕ
last = 2 ^ 64 - 1

-- The sink took the first bytes of a text and not all, and the count is how many, as far as a count goes.
pub record TakesPart (text : List ℕ) (old new : Option (List ℕ)) (count : ℕ) : Type 0 where
  pub taken : ℕ
  pub short : taken < length text
  pub bytes : Appends old new (take taken text)
  pub counted : count ≡ min taken last

-- The same of a text behind `done` other bytes, where the count is of both.
pub record PutsPart (done : ℕ) (text : List ℕ) (old new : Option (List ℕ)) (count : ℕ) : Type 0 where
  pub taken : ℕ
  pub short : taken < length text
  pub bytes : Appends old new (take taken text)
  pub counted : count ≡ min (done + taken) last

-- Behind `done` other bytes the sink took all of a text, and the count is of both; or it took a part, and its faults rose.
pub record Puts (done : ℕ) (text : List ℕ) (old new : Option (List ℕ)) (before now : ℕ) (result : Result ℕ WriteFault) : Type 0 where
  pub all : IfOk result (λ count. Appends old new text × (count ≡ min (done + length text) last))
  pub part : IfErr result (λ e. PutsPart done text old new e.written)
  pub fault : OnErr result (Rose before now)
  pub later : before ≤ now

-- Whatever was handed over before, and however far that came, the text comes behind it: all of it, or a part if the sink failed in it, or
-- nothing if it failed before.
abbrev pub Extends : List ℕ → Option (List ℕ) → ℕ → Result ℕ WriteFault → Option (List ℕ) → ℕ → Result ℕ WriteFault → Type 0
Extends text mid between so_far new now result = (front : List ℕ) (old : Option (List ℕ)) (before : ℕ)
    → Puts 0 front old mid before between so_far → Puts 0 (front ++ text) old new before now result
