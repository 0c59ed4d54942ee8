-- Each status has its row.
use Rattle.std.proofs.Common.{◌≡◌, ◌≢◌, ◌⊎◌, ◌<◌, ℕ, List, [], ◌∷◌, length, codes, Bool, true, false, if◌then◌else◌, Option, Some, None, Result, Ok, Err, refl, ap, sym, ◌∙◌, subst, inl, inr}
use Rattle.std.specs.Str.{bytes_eq}
use Rattle.lido_base.specs.Causes.{Rose}
use Rattle.lido_base.specs.Phases.{OneOf, Then}
use Rattle.lido_base.specs.declared.kinds.WordKind.TheVariants as kind
use Rattle.order_report.specs.declared.status.Status.{Status}
use Rattle.order_report.specs.declared.status.Status.TheVariants as status
use Rattle.order_report.specs.declared.status.Which.{Which}
use Rattle.order_report.specs.Lines.{line_of}
use Rattle.lido_top.specs.Answers.{Answer, Seen, Took, Follows, whole, out_fails, err_fails, on_err, refusal, answer_of}
use Rattle.lido_top.specs.Calls as calls
use Rattle.lido_top.specs.Endings.{Ending, nameless, plainly, no_memory}
use Rattle.trials_of_answers.specs.Toy.{Command, Check, Run, Big, Edit, Said, To, command_of}
use Rattle.trials_of_answers.specs.Rows.{Kind, OfSource, OfSink, OfAnswer, kind_of, Row, HasRow, ToMore, as_before, refuses}

same_kind : (s : Status) → kind_of (nameless s) ≡ kind_of s
same_kind (status.Spec f) = refl
same_kind s = refl

-- the status is one that an answer has
abbrev IsOwn : Status → Type 0
IsOwn s = kind_of s ≡ OfAnswer

-- Where the refusals of words and the answers of commands have statuses of an answer, each status has its row.
module _ {Command : Type 0} (IsAlike : Answer → Answer → Type 0) (Said : List (List ℕ) → Result Command Ending → Type 0) (reads : Command → Bool) (To : Command → Option (List ℕ) → Answer → Type 0)
    (own_words : (words : List (List ℕ)) (e : Ending) → Said words (Err e) → IsOwn e.status)
    (own : (c : Command) (input : Option (List ℕ)) (answer : Answer) → To c input answer → IsOwn answer.ending.status) where
  whose : (words : List (List ℕ)) (src later : Seen) (decided : Answer) → calls.Decides IsAlike Said reads To words src later decided
      → IsOwn decided.ending.status ⊎ ((decided ≡ refusal (plainly status.ReadFault)) × Rose src.faults later.faults)
  whose words src later decided (calls.words_fail {e} the kept) = inl (own_words words e the.is)
  whose words src later decided (calls.too_long c the does many) = inl refl
  whose words src later decided (calls.source_fails c the does part rose) = inr (refl, rose)
  whose words src later decided (calls.answers c input the taken one) = inl (own c input decided one.is)
  whose words src later decided calls.memory_ends = inl refl

  pub has_row : (words : List (List ℕ)) (src later out out' err err' : Seen) (decided : Answer) (s : Status) → calls.Decides IsAlike Said reads To words src later decided
      → Follows decided out out' err err' s → HasRow decided src later out out' err err' s
  has_row words src later out out' err err' decided s given (out_fails short took rose told) = (rose, short, took)
  has_row words src later out out' err err' decided s given (err_fails took failed) = (failed.1, took)
  has_row words src later out out' err err' decided s given (whole took told same) = by (kind_of s) refl
    where
      decided_kind : kind_of decided.ending.status ≡ kind_of s
      decided_kind = ap kind_of (sym same) ∙ same_kind s

      by : (k : Kind) → kind_of s ≡ k → Row decided src later out out' err err' s k
      by OfAnswer is = (same, took, told)
      by OfSource is = elim (whose words src later decided given) [
        | inl owned ↦ absurd (let e : OfAnswer ≡ OfSource = sym owned ∙ decided_kind ∙ is in cc)
        | inr (failed, rose) ↦ (rose, subst (λ (a : Answer). Took out out' a.out) failed took, subst (λ (a : Answer). Took err err' (on_err a)) failed told)
      ]
      by (OfSink sink n) is = elim (whose words src later decided given) [
        | inl owned ↦ absurd (let e : OfAnswer ≡ OfSink sink n = sym owned ∙ decided_kind ∙ is in cc)
        | inr (failed, rose) ↦ absurd (let e : OfSource ≡ OfSink sink n = sym (ap (λ (a : Answer). kind_of a.ending.status) failed) ∙ decided_kind ∙ is in cc)
      ]

-- ---- the toy's statuses

own_word : (a b c d : Bool) (e : Ending) → Err e ≡ (if a then Ok Check else if b then Ok Run else if c then Ok Big else if d then Ok Edit else Err (plainly (status.Words 0 kind.Unknown))) → IsOwn e.status
own_word true b c d e is = absurd (cc)
own_word false true c d e is = absurd (cc)
own_word false false true d e is = absurd (cc)
own_word false false false true e is = absurd (cc)
own_word false false false false e is = let same : e ≡ plainly (status.Words 0 kind.Unknown) = cc in ap (λ (x : Ending). kind_of x.status) same

pub own_words : (words : List (List ℕ)) (e : Ending) → Said words (Err e) → IsOwn e.status
own_words [] e is = let same : e ≡ plainly (status.Words 0 kind.Missing) = cc in ap (λ (x : Ending). kind_of x.status) same
own_words (w ∷ ws) e is = own_word (bytes_eq w (codes "check")) (bytes_eq w (codes "run")) (bytes_eq w (codes "big")) (bytes_eq w (codes "edit")) e is

own_answer : {answer other : Answer} → answer ≡ other → IsOwn other.ending.status → IsOwn answer.ending.status
own_answer same is = ap (λ (a : Answer). kind_of a.ending.status) same ∙ is

pub own : (c : Command) (input : Option (List ℕ)) (answer : Answer) → To c input answer → IsOwn answer.ending.status
unfolding OneOf
own Check None answer given = absurd given
own Check (Some bytes) answer (Ok text, given, is) = own_answer is refl
own Check (Some bytes) answer (Err e, inl (n, size, (path, cycle, told)), is) = own_answer is (ap (λ (x : Ending). kind_of x.status) told)
own Check (Some bytes) answer (Err e, inr (s, (none, nothing), told), is) = let same : e ≡ s = cc in own_answer is (ap (λ (x : Ending). kind_of x.status) (same ∙ none))
own Run None answer given = absurd given
own Run (Some bytes) answer is = own_answer is refl
own Big None answer is = own_answer is refl
own Big (Some bytes) answer given = absurd given
own Edit None answer given = absurd given
own Edit (Some bytes) answer is = own_answer is refl

-- one status more is one case more
pub own_more : (c : Command) (input : Option (List ℕ)) (answer : Answer) → ToMore c input answer → IsOwn answer.ending.status
own_more c input answer (as_before other given) = own c input answer given
own_more c input answer refuses = refl

-- the input without a tree is refused, and has no other answer
pub y_refused : (other : Answer) → ToMore Run (Some (codes "y")) other → other ≡ refusal (plainly status.NoTree)
y_refused other (as_before differs given) = absurd (differs refl)
y_refused other refuses = refl
