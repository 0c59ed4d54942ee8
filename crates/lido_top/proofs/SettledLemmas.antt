-- What the definitions of a call settle.
use Rattle.std.proofs.Common.{◌≡◌, ◌≢◌, ◌⊎◌, ◌<◌, ◌≤◌, ℕ, List, [], ◌∷◌, length, codes, Option, Some, None, IfSome, Result, Ok, Err, refl, ap, sym, ◌∙◌, arith, subst, inl, inr, length-append, append-nil}
use Rattle.std.specs.Io.KnownBytes.{Appends, Consumes, Keeps}
use Rattle.lido_base.specs.Causes.{Rose}
use Rattle.lido_base.specs.Inputs.{most, TakesAll, TakesTooMany}
use Rattle.lido_base.specs.Phases.{OneOf, Then, Wrapped}
use Rattle.job_text.specs.declared.command_line.Command.{Command}
use Rattle.job_text.specs.declared.command_line.WordsFault.{WordsFault}
use Rattle.job_text.specs.declared.command_line.WordsFault.TheVariants as word
use Rattle.job_text.specs.declared.cutting.CutFault.{CutFault}
use Rattle.job_text.specs.declared.cutting.CutFault.TheVariants as cut
use Rattle.lido_lexer.specs.declared.token.LexFault.{LexFault}
use Rattle.lido_lexer.specs.declared.token.LexFault.TheVariants as lex
use Rattle.lido_computations.specs.declared.fault.ReadSpecFault.{ReadSpecFault}
use Rattle.lido_computations.specs.declared.fault.ReadSpecFault.TheVariants as read
use Rattle.ptg_patterns.specs.declared.fault.PtgFault.{PtgFault}
use Rattle.ptg_patterns.specs.declared.fault.PtgFault.TheVariants as ptg
use Rattle.lido_syntax.specs.declared.fault.SpecFault.{SpecFault}
use Rattle.order_report.specs.declared.status.Which.{Which}
use Rattle.order_report.specs.declared.status.Status.{Status}
use Rattle.order_report.specs.declared.status.Status.TheVariants as status
use Rattle.order_report.specs.declared.status.Which.TheVariants as which
use Rattle.lido_top.specs.Answers.{Answer, Seen, Follows, whole, out_fails, err_fails, IsOutside, answer_of, refusal, written}
use Rattle.lido_top.specs.Calls as calls
use Rattle.lido_top.specs.Endings.{Ending, nameless, plainly, no_memory}
use Rattle.lido_top.specs.Verdict.{AnswerTo, Decides, IsAlike, IsAnswer, TextOf, SectionsOf, TokensOf, SyntaxOf, PatternsOf, FirstPathOf, part, size_of, behind_spec, of_cut, of_lex, of_read, of_ptg}
use Rattle.job_text.specs.CommandLine.{WordsOf}
use Rattle.job_text.specs.Cutting.{Cutting}
use Rattle.lido_lexer.specs.Tables.{LexedFrom}
use Rattle.lido_computations.specs.Functions.{known_words}
use Rattle.lido_reader.specs.Specification.{IsReading}
use Rattle.ptg_patterns.specs.Texts.{PatternsFrom}
use Rattle.lido_top.proofs.StepsLemmas.{BehindSections, BehindTokens, BehindSyntax}
use Rattle.lido_top.specs.Words.{CommandOf, SaidOf, BuiltOf, of_words}
use Rattle.lido_top.specs.Job.{IsResult}

-- ---- what is told

took_more : (bytes taken : List ℕ) (new : Option (List ℕ)) → Consumes (Some bytes) new taken → length taken ≤ length bytes
took_more bytes taken None consumes = absurd consumes
took_more bytes taken (Some rest) consumes = omega (arith, ap length consumes, length-append taken rest)

many_told : (left left' : Option (List ℕ)) (bytes : List ℕ) → TakesTooMany left left' → left ≡ Some bytes → most < length bytes
many_told left left' bytes many told =
    let consumed = subst (λ (o : Option (List ℕ)). Consumes o left' many.bytes) told many.taken in
    omega (arith, many.count, took_more bytes many.bytes left' consumed)

-- the bytes that were taken are those that the source tells
all_told : (left left' : Option (List ℕ)) (bytes taken : List ℕ) → TakesAll left left' taken → left ≡ Some bytes → taken ≡ bytes
all_told left left' bytes taken all told = subst (λ (o : Option (List ℕ)). IfSome o (λ x. taken ≡ x)) told all.told

-- What a call decides is alike to each answer that the told bytes call for, or the source failed, or memory ran out.
pub settles : (words : List (List ℕ)) (src later : Seen) (decided : Answer) → Decides words src later decided → (bytes : List ℕ) → src.bytes ≡ Some bytes → (answer : Answer) → IsAnswer words bytes answer
    → IsAlike answer decided ⊎ (((decided ≡ refusal (plainly status.ReadFault)) × Rose src.faults later.faults) ⊎ (decided ≡ refusal no_memory))
settles words src later decided (calls.words_fail {e} the kept) bytes told answer (calls.of_words {e = other} given) =
    let same : other ≡ e = (let q = the.only (Err other) given in cc) in inl (ap refusal same)
settles words src later decided (calls.words_fail {e} the kept) bytes told answer (calls.of_length c given reads long) = absurd (let q = the.only (Ok c) given in cc)
settles words src later decided (calls.words_fail {e} the kept) bytes told answer (calls.of_input c given reads fits to) = absurd (let q = the.only (Ok c) given in cc)
settles words src later decided (calls.words_fail {e} the kept) bytes told answer (calls.alone c given reads to) = absurd (let q = the.only (Ok c) given in cc)
settles words src later decided (calls.too_long c the reads many) bytes told answer (calls.of_words {e = other} given) = absurd (let q = the.only (Err other) given in cc)
settles words src later decided (calls.too_long c the reads many) bytes told answer (calls.of_length d given does long) = inl refl
settles words src later decided (calls.too_long c the reads many) bytes told answer (calls.of_input d given does fits to) =
    absurd (omega (arith, many_told src.bytes later.bytes bytes many told, fits))
settles words src later decided (calls.too_long c the reads many) bytes told answer (calls.alone d given does to) = absurd (cc)
settles words src later decided (calls.source_fails c the reads part rose) bytes told answer given = inr (inl (refl, rose))
settles words src later decided (calls.answers c (Some taken) the all one) bytes told answer (calls.of_words {e = other} given) = absurd (let q = the.only (Err other) given in cc)
settles words src later decided (calls.answers c (Some taken) the all one) bytes told answer (calls.of_length d given does long) =
    absurd (omega (arith, all.fits, long, ap length (all_told src.bytes later.bytes bytes taken all told)))
settles words src later decided (calls.answers c (Some taken) the all one) bytes told answer (calls.of_input d given does fits to) =
    inl (one.others answer (subst (λ (l : List ℕ). AnswerTo c (Some l) answer) (sym (all_told src.bytes later.bytes bytes taken all told)) to))
settles words src later decided (calls.answers c (Some taken) the all one) bytes told answer (calls.alone d given does to) = absurd (cc)
settles words src later decided (calls.answers c None the none one) bytes told answer given = absurd none
settles words src later decided calls.memory_ends bytes told answer given = inr (inr refl)

-- ---- the statuses of phases

-- no status of the source, of a sink or of a text
abbrev pub IsOfJob : Status → Type 0
IsOfJob status.Done = ⊥
IsOfJob status.ReadFault = ⊥
IsOfJob (status.WriteFault sink n) = ⊥
IsOfJob s = Unit {0}

-- the faults of a phase are of the job
abbrev ArePlain : {A : Type 0} → (Result A Ending → Type 0) → Type 0
ArePlain p = (e : Ending) → p (Err e) → IsOfJob e.status

wrapped_plain : {A F : Type 0} (wrap : F → Ending) (p : Result A F → Type 0) → ((f : F) → IsOfJob (wrap f).status) → ArePlain (Wrapped wrap p)
wrapped_plain wrap p each e (f, refused, is) = subst (λ (x : Ending). IsOfJob x.status) (sym is) (each f)

then_plain : {A B : Type 0} (p : Result A Ending → Type 0) (q : A → Result B Ending → Type 0) → ArePlain p → ((a : A) → ArePlain (q a)) → ArePlain (Then p q)
then_plain p q first next e (inl (a, gives, refused)) = next a e refused
then_plain p q first next e (inr (s, refused, is)) = let same : e ≡ s = cc in subst (λ (x : Ending). IsOfJob x.status) (sym same) (first s refused)

one_plain : {A : Type 0} (P : A → Type 0) (refusal : Ending) → IsOfJob refusal.status → ArePlain (OneOf P refusal)
unfolding OneOf
one_plain P refusal plain e (is, none) = subst (λ (x : Ending). IsOfJob x.status) (sym is) plain

cut_plain : (f : CutFault) → IsOfJob (of_cut f).status
cut_plain cut.NoPtg = tt
cut_plain cut.NoTree = tt

lex_plain : (f : LexFault) → IsOfJob (of_lex f).status
lex_plain (lex.Lexical at) = tt
lex_plain lex.Memory = tt

read_plain : (f : ReadSpecFault) → IsOfJob (of_read f).status
read_plain (read.Syntax at) = tt
read_plain read.Memory = tt

ptg_plain : (f : PtgFault) → IsOfJob (of_ptg f).status
ptg_plain (ptg.PtgSyntax at) = tt
ptg_plain (ptg.PtgDuplicate at) = tt
ptg_plain (ptg.PtgMixed at) = tt
ptg_plain ptg.Memory = tt

word_plain : (f : WordsFault) → IsOfJob (of_words f).status
word_plain (word.Words index kind) = tt
word_plain word.Memory = tt

text_plain : (bytes : List ℕ) → ArePlain (TextOf bytes)
unfolding TextOf SectionsOf TokensOf SyntaxOf PatternsOf FirstPathOf
text_plain bytes =
    then_plain (SectionsOf bytes) (BehindSections bytes) (wrapped_plain of_cut (Cutting bytes) cut_plain) (λ sections.
    then_plain (TokensOf known_words bytes sections) (BehindTokens bytes sections) (wrapped_plain of_lex (LexedFrom known_words (part bytes sections.spec)) lex_plain) (λ read.
    then_plain (SyntaxOf read (size_of sections.spec)) (BehindSyntax bytes sections read) (wrapped_plain of_read (IsReading (behind_spec read) read.1 (size_of sections.spec)) read_plain) (λ spec.
    then_plain (PatternsOf (behind_spec read) bytes sections) (λ patterns. FirstPathOf bytes) (wrapped_plain of_ptg (PatternsFrom (behind_spec read) (part bytes sections.ptg)) ptg_plain) (λ patterns.
    one_plain (IsResult bytes) (plainly status.FirstPathOnly) tt))))

words_plain : (words : List (List ℕ)) → ArePlain (CommandOf words)
unfolding CommandOf SaidOf BuiltOf
words_plain words = then_plain (SaidOf words) (BuiltOf words) (wrapped_plain of_words (WordsOf words) word_plain) (λ command. one_plain (λ (built : Command). (built ≡ command) × (words ≡ codes "run" ∷ [])) (plainly status.FirstPathOnly) tt)

-- ---- what a call does

-- What is decided: a text; or a refusal of the job, of the input's length or of memory; or the source's fault, for which its count rose.
data Decided (src later : Seen) : Answer → Type 0 where
  text : (bytes : List ℕ) → Decided src later (written bytes)
  refuses : (e : Ending) → IsOfJob e.status → Decided src later (refusal e)
  source : Rose src.faults later.faults → Decided src later (refusal (plainly status.ReadFault))

of_answer : (src later : Seen) (bytes : List ℕ) (r : Result (List ℕ) Ending) → TextOf bytes r → Decided src later (answer_of r)
of_answer src later bytes (Ok found) given = text found
of_answer src later bytes (Err e) given = refuses e (text_plain bytes e given)

decided_kind : (words : List (List ℕ)) (src later : Seen) (decided : Answer) → Decides words src later decided → Decided src later decided
decided_kind words src later decided (calls.words_fail {e} the kept) = refuses e (words_plain words e the.is)
decided_kind words src later decided (calls.too_long c the reads many) = refuses (plainly status.InputTooLong) tt
decided_kind words src later decided (calls.source_fails c the reads part rose) = source rose
decided_kind words src later decided (calls.answers c (Some bytes) the all one) =
    subst (Decided src later) (sym one.is.2) (of_answer src later bytes one.is.0 one.is.1)
decided_kind words src later decided (calls.answers c None the none one) = absurd none
decided_kind words src later decided calls.memory_ends = refuses no_memory tt

-- a status is a specification's fault, or has no name
nameless_kind : (s : Status) → ((f : SpecFault) × (s ≡ status.Spec f)) ⊎ (nameless s ≡ s)
nameless_kind (status.Spec f) = inl (f, refl)
nameless_kind s = inr refl

done_alone : (s : Status) → nameless s ≡ status.Done → s ≡ status.Done
done_alone s is = elim (nameless_kind s) [ inl (f, spec) ↦ absurd (let q = sym (ap nameless spec) ∙ is in cc) | inr same ↦ sym same ∙ is ]

source_kind : (src later : Seen) (decided : Answer) → Decided src later decided → decided.ending.status ≡ status.ReadFault → Rose src.faults later.faults
source_kind src later decided (text bytes) is = absurd (cc)
source_kind src later decided (refuses e plain) is = absurd (subst IsOfJob is plain)
source_kind src later decided (source rose) is = rose

pub source_cause : (words : List (List ℕ)) (src later out out' err err' : Seen) (decided : Answer) (s : Status) → Decides words src later decided → Follows decided out out' err err' s
    → s ≡ status.ReadFault → Rose src.faults later.faults
source_cause words src later out out' err err' decided s given (whole took told same) is =
    source_kind src later decided (decided_kind words src later decided given) (sym same ∙ ap nameless is)
source_cause words src later out out' err err' decided s given (out_fails short took rose told) is = absurd (cc)
source_cause words src later out out' err err' decided s given (err_fails took failed) is = absurd (cc)

no_sink : (src later : Seen) (decided : Answer) (which : Which) (n : ℕ) → Decided src later decided → decided.ending.status ≡ status.WriteFault which n → ⊥
no_sink src later decided which n (text bytes) is = cc
no_sink src later decided which n (refuses e plain) is = subst IsOfJob is plain
no_sink src later decided which n (source rose) is = cc

pub out_cause : (words : List (List ℕ)) (src later out out' err err' : Seen) (decided : Answer) (s : Status) (n : ℕ) → Decides words src later decided → Follows decided out out' err err' s
    → s ≡ status.WriteFault which.Out n → Rose out.faults out'.faults
out_cause words src later out out' err err' decided s n given (whole took told same) is =
    absurd (no_sink src later decided which.Out n (decided_kind words src later decided given) (sym same ∙ ap nameless is))
out_cause words src later out out' err err' decided s n given (out_fails short took rose told) is = rose
out_cause words src later out out' err err' decided s n given (err_fails took failed) is = absurd (cc)

pub err_cause : (words : List (List ℕ)) (src later out out' err err' : Seen) (decided : Answer) (s : Status) (n : ℕ) → Decides words src later decided → Follows decided out out' err err' s
    → s ≡ status.WriteFault which.Err n → Rose err.faults err'.faults
err_cause words src later out out' err err' decided s n given (whole took told same) is =
    absurd (no_sink src later decided which.Err n (decided_kind words src later decided given) (sym same ∙ ap nameless is))
err_cause words src later out out' err err' decided s n given (out_fails short took rose told) is = absurd (cc)
err_cause words src later out out' err err' decided s n given (err_fails took failed) is = failed.1

keeps : (old new : Option (List ℕ)) → Appends old new [] → Keeps old new
keeps None new took = tt
keeps (Some x) None took = took
keeps (Some x) (Some y) took = took ∙ append-nil x

out_kept : (src later out out' err err' : Seen) (decided : Answer) (s : Status) → Decided src later decided → Follows decided out out' err err' s
    → s ≢ status.Done → ((n : ℕ) → s ≢ status.WriteFault which.Out n) → Keeps out.bytes out'.bytes
out_kept src later out out' err err' decided s (text bytes) (whole took told same) not_done no_fault = absurd (not_done (done_alone s same))
out_kept src later out out' err err' decided s (refuses e plain) (whole took told same) not_done no_fault = keeps out.bytes out'.bytes took
out_kept src later out out' err err' decided s (source rose) (whole took told same) not_done no_fault = keeps out.bytes out'.bytes took
out_kept src later out out' err err' decided s kind (out_fails {n} short took rose told) not_done no_fault = absurd (no_fault n refl)
out_kept src later out out' err err' decided s (text bytes) (err_fails took failed) not_done no_fault = absurd (omega (arith, failed.0.short))
out_kept src later out out' err err' decided s (refuses e plain) (err_fails took failed) not_done no_fault = keeps out.bytes out'.bytes took
out_kept src later out out' err err' decided s (source rose) (err_fails took failed) not_done no_fault = keeps out.bytes out'.bytes took

pub refusal_keeps_out : (words : List (List ℕ)) (src later out out' err err' : Seen) (decided : Answer) (s : Status) → Decides words src later decided → Follows decided out out' err err' s
    → s ≢ status.Done → ((n : ℕ) → s ≢ status.WriteFault which.Out n) → Keeps out.bytes out'.bytes
refusal_keeps_out words src later out out' err err' decided s given follows not_done no_fault =
    out_kept src later out out' err err' decided s (decided_kind words src later decided given) follows not_done no_fault

outside_seen : (s : Status) → IsOutside (nameless s) → IsOutside s
outside_seen s given = elim (nameless_kind s) [ inl (f, spec) ↦ absurd (subst IsOutside (ap nameless spec) given) | inr same ↦ subst IsOutside same given ]

-- an answer of the outside is followed with a status of the outside
outside_kept : (decided : Answer) (out out' err err' : Seen) (s : Status) → IsOutside decided.ending.status → Follows decided out out' err err' s → IsOutside s
outside_kept decided out out' err err' s outside (whole took told same) = outside_seen s (subst IsOutside (sym same) outside)
outside_kept decided out out' err err' s outside (out_fails short took rose told) = tt
outside_kept decided out out' err err' s outside (err_fails took failed) = tt

followed : (decided answer : Answer) (out out' err err' : Seen) (s : Status) → answer ≡ decided → Follows decided out out' err err' s → (nameless s ≡ answer.ending.status) ⊎ IsOutside s
followed decided answer out out' err err' s alike (whole took told same) = inl (same ∙ sym (ap (λ (a : Answer). a.ending.status) alike))
followed decided answer out out' err err' s alike (out_fails short took rose told) = inr tt
followed decided answer out out' err err' s alike (err_fails took failed) = inr tt

-- The status is the one of each answer that the told bytes call for, or one of the outside.
pub status_settled : (words : List (List ℕ)) (src later out out' err err' : Seen) (decided : Answer) (s : Status) → Decides words src later decided → Follows decided out out' err err' s
    → (bytes : List ℕ) → src.bytes ≡ Some bytes → (answer : Answer) → IsAnswer words bytes answer → (nameless s ≡ answer.ending.status) ⊎ IsOutside s
status_settled words src later out out' err err' decided s given follows bytes told answer called = elim (settles words src later decided given bytes told answer called) [
  | inl alike ↦ followed decided answer out out' err err' s alike follows
  | inr (inl (is, rose)) ↦ inr (outside_kept decided out out' err err' s (subst (λ (a : Answer). IsOutside a.ending.status) (sym is) tt) follows)
  | inr (inr is) ↦ inr (outside_kept decided out out' err err' s (subst (λ (a : Answer). IsOutside a.ending.status) (sym is) tt) follows)
]
