-- Words and bytes call for answers that are alike.
use Rattle.std.proofs.Common.{◌≡◌, ℕ, zero, suc, List, [], ◌∷◌, codes, Bool, true, false, Option, Some, None, Result, Ok, Err, refl, ap, sym, ◌∙◌, subst, arith, true≢false, map, bytes_eq}
use Rattle.std.specs.Fmt.{signed_decimal}
use Rattle.std.specs.List.{IsDistinct}
use Rattle.std.proofs.lemmas.List.{append_cancel_left}
use Rattle.std.proofs.lemmas.Slice.Eq.{bytes_eq-Decides}
use Rattle.lido_base.specs.Texts.{IsDistinctTexts}
use Rattle.lido_base.proofs.PhasesLemmas.{IsSingle, single_then, single_wrapped, single_one_of}
use Rattle.lido_base.proofs.TextsLemmas.{interned_distinct}
use Rattle.job_text.specs.declared.command_line.Command.{Command}
use Rattle.job_text.specs.declared.cutting.Sections.{Sections}
use Rattle.job_text.specs.CommandLine.{WordsOf}
use Rattle.job_text.specs.Cutting.{Cutting}
use Rattle.job_text.proofs.CuttingLemmas.{one_cutting}
use Rattle.job_text.proofs.FaultLemmas.{one_command}
use Rattle.lido_lexer.specs.declared.token.Token.{Token}
use Rattle.lido_lexer.specs.Lexing.{shown_in}
use Rattle.lido_lexer.specs.Tables.{interned, texts_in, LexedFrom}
use Rattle.lido_lexer.proofs.TablesLemmas.{one_table_and_tokens}
use Rattle.lido_computations.specs.Functions.{known_words}
use Rattle.lido_reader.specs.Added.{rule_names}
use Rattle.lido_reader.specs.Specification.{IsReading}
use Rattle.lido_reader.proofs.ReadingsLemmas.{one_reading}
use Rattle.ptg_patterns.specs.Texts.{PatternsFrom}
use Rattle.ptg_patterns.proofs.OneLemmas.{one_list_of_patterns}
use Rattle.sum_trees.specs.Trees.{HasDistinctNames, IsTree}
use Rattle.order_report.specs.declared.status.Status.TheVariants as status
use Rattle.lido_top.specs.declared.job.TheConstants.{SUM_JOB}
use Rattle.lido_top.specs.Answers.{Answer, answer_of, refusal}
use Rattle.lido_top.specs.Calls as calls
use Rattle.lido_top.specs.Endings.{Ending, plainly}
use Rattle.lido_top.specs.Job.{IsResult, sum_rules}
use Rattle.lido_top.specs.Sums.{IsOnlyAttribution, value_at}
use Rattle.lido_top.specs.Verdict.{AnswerTo, IsAlike, IsAnswer, TextOf, SectionsOf, TokensOf, SyntaxOf, PatternsOf, FirstPathOf, part, size_of, behind_spec, reads, of_cut, of_lex, of_read, of_ptg}
use Rattle.lido_top.specs.Words.{CommandOf, SaidOf, BuiltOf, of_words}
use Rattle.lido_top.proofs.OneTreeLemmas.{one_tree}
use Rattle.lido_top.proofs.StepsLemmas.{BehindSections, BehindTokens, BehindSyntax}

-- ---- a job has one result

differ : (one other : List ℕ) → bytes_eq one other ≡ false → one ≡ other → ⊥
differ one other not same = true≢false (sym ((bytes_eq-Decides one other).1 same) ∙ not)

distinct_names : HasDistinctNames sum_rules
distinct_names zero zero less less' same = refl
distinct_names zero (suc zero) less less' same = absurd (differ (codes "rTop") (codes "rAdd") refl same)
distinct_names zero (suc (suc zero)) less less' same = absurd (differ (codes "rTop") (codes "rNum") refl same)
distinct_names zero (suc (suc (suc n))) less less' same = absurd (omega (arith, less'))
distinct_names (suc zero) zero less less' same = absurd (differ (codes "rAdd") (codes "rTop") refl same)
distinct_names (suc zero) (suc zero) less less' same = refl
distinct_names (suc zero) (suc (suc zero)) less less' same = absurd (differ (codes "rAdd") (codes "rNum") refl same)
distinct_names (suc zero) (suc (suc (suc n))) less less' same = absurd (omega (arith, less'))
distinct_names (suc (suc zero)) zero less less' same = absurd (differ (codes "rNum") (codes "rTop") refl same)
distinct_names (suc (suc zero)) (suc zero) less less' same = absurd (differ (codes "rNum") (codes "rAdd") refl same)
distinct_names (suc (suc zero)) (suc (suc zero)) less less' same = refl
distinct_names (suc (suc zero)) (suc (suc (suc n))) less less' same = absurd (omega (arith, less'))
distinct_names (suc (suc (suc n))) j less less' same = absurd (omega (arith, less))

one_result : (bytes one other : List ℕ) → IsResult bytes one → IsResult bytes other → one ≡ other
one_result bytes one other a b =
    let text : a.tree_text ≡ b.tree_text = append_cancel_left SUM_JOB.now a.tree_text b.tree_text (sym a.job ∙ b.job) in
    let nodes : a.nodes ≡ b.nodes = one_tree sum_rules distinct_names b.tree_text a.nodes b.nodes (subst (λ (t : List ℕ). IsTree sum_rules t a.nodes) text a.tree) b.tree in
    let only = subst (λ n. IsOnlyAttribution sum_rules n a.values) nodes a.only in
    a.number ∙ ap (λ v. signed_decimal (value_at v 0)) (sym (only.only b.values b.only.meets)) ∙ sym b.number

-- ---- each phase gives one thing

no_texts : IsDistinctTexts []
unfolding IsDistinct
no_texts = tt

known_interned : interned [] known_words ≡ known_words
unfolding interned
known_interned = refl

known_distinct : IsDistinctTexts known_words
known_distinct = subst IsDistinctTexts known_interned (interned_distinct [] known_words no_texts)

-- behind the tokens of a specification no text stands twice
distinct_behind : (bytes : List ℕ) (sections : Sections) (read : List (List ℕ) × List Token) → TokensOf known_words bytes sections (Ok read) → IsDistinctTexts (behind_spec read)
unfolding TokensOf LexedFrom
distinct_behind bytes sections (texts, tokens) given =
    interned_distinct texts (rule_names 1 tokens)
    (subst IsDistinctTexts (sym given.table) (interned_distinct known_words (texts_in (map (shown_in texts) tokens)) known_distinct))

text_single : (bytes : List ℕ) → IsSingle (TextOf bytes)
unfolding TextOf SectionsOf TokensOf SyntaxOf PatternsOf FirstPathOf
text_single bytes =
    single_then (SectionsOf bytes) (BehindSections bytes) (single_wrapped of_cut (Cutting bytes) (one_cutting bytes)) (λ sections cut.
    single_then (TokensOf known_words bytes sections) (BehindTokens bytes sections)
    (single_wrapped of_lex (LexedFrom known_words (part bytes sections.spec)) (one_table_and_tokens known_words (part bytes sections.spec) known_distinct)) (λ read lexed.
    let distinct = distinct_behind bytes sections read lexed in
    single_then (SyntaxOf read (size_of sections.spec)) (BehindSyntax bytes sections read)
    (single_wrapped of_read (IsReading (behind_spec read) read.1 (size_of sections.spec)) (one_reading (behind_spec read) distinct read.1 (size_of sections.spec))) (λ spec derived.
    single_then (PatternsOf (behind_spec read) bytes sections) (λ patterns. FirstPathOf bytes)
    (single_wrapped of_ptg (PatternsFrom (behind_spec read) (part bytes sections.ptg)) (one_list_of_patterns (behind_spec read) (part bytes sections.ptg) distinct)) (λ patterns given.
    single_one_of (IsResult bytes) (plainly status.FirstPathOnly) (one_result bytes)))))

command_single : (words : List (List ℕ)) → IsSingle (CommandOf words)
unfolding CommandOf SaidOf BuiltOf
command_single words =
    single_then (SaidOf words) (BuiltOf words) (single_wrapped of_words (WordsOf words) (one_command words)) (λ command said.
    single_one_of (λ (built : Command). (built ≡ command) × (words ≡ codes "run" ∷ [])) (plainly status.FirstPathOnly) (λ one other a b. a.0 ∙ sym b.0))

-- ---- a call has one answer

-- Words and bytes call for answers that are alike, where words say one thing, and the answers of a command to an input are alike.
module _ {C : Type 0} (Alike : Answer → Answer → Type 0) (Said : List (List ℕ) → Result C Ending → Type 0) (asks : C → Bool)
    (To : C → Option (List ℕ) → Answer → Type 0) (same : (answer : Answer) → Alike answer answer) (said : (words : List (List ℕ)) → IsSingle (Said words))
    (alike : (c : C) (input : Option (List ℕ)) (one other : Answer) → To c input one → To c input other → Alike one other) where
  one_said : (words : List (List ℕ)) (c d : C) → Said words (Ok c) → Said words (Ok d) → c ≡ d
  one_said words c d given too = let q = said words (Ok c) (Ok d) given too in cc

  reads_or_not : (words : List (List ℕ)) (c d : C) → Said words (Ok c) → Said words (Ok d) → asks c ≡ true → asks d ≡ false → ⊥
  reads_or_not words c d given too does not = true≢false (sym does ∙ ap asks (one_said words c d given too) ∙ not)

  pub answers_alike : (words : List (List ℕ)) (bytes : List ℕ) (one other : Answer) → calls.IsAnswer Alike Said asks To words bytes one
      → calls.IsAnswer Alike Said asks To words bytes other → Alike one other
  answers_alike words bytes one other (calls.of_words {e} given) (calls.of_words {e = f} too) =
      let is : e ≡ f = (let q = said words (Err e) (Err f) given too in cc) in
      subst (λ (x : Ending). Alike (refusal e) (refusal x)) is (same (refusal e))
  answers_alike words bytes one other (calls.of_words {e} given) (calls.of_length c too does long) = absurd (let q = said words (Err e) (Ok c) given too in cc)
  answers_alike words bytes one other (calls.of_words {e} given) (calls.of_input c too does fits to) = absurd (let q = said words (Err e) (Ok c) given too in cc)
  answers_alike words bytes one other (calls.of_words {e} given) (calls.alone c too not to) = absurd (let q = said words (Err e) (Ok c) given too in cc)
  answers_alike words bytes one other (calls.of_length c given does long) (calls.of_words {e} too) = absurd (let q = said words (Ok c) (Err e) given too in cc)
  answers_alike words bytes one other (calls.of_length c given does long) (calls.of_length d too does' long') = same (refusal (plainly status.InputTooLong))
  answers_alike words bytes one other (calls.of_length c given does long) (calls.of_input d too does' fits to) = absurd (omega (arith, long, fits))
  answers_alike words bytes one other (calls.of_length c given does long) (calls.alone d too not to) = absurd (reads_or_not words c d given too does not)
  answers_alike words bytes one other (calls.of_input c given does fits to) (calls.of_words {e} too) = absurd (let q = said words (Ok c) (Err e) given too in cc)
  answers_alike words bytes one other (calls.of_input c given does fits to) (calls.of_length d too does' long) = absurd (omega (arith, long, fits))
  answers_alike words bytes one other (calls.of_input c given does fits to) (calls.of_input d too does' fits' to') =
      alike d (Some bytes) one other (subst (λ (x : C). To x (Some bytes) one) (one_said words c d given too) to) to'
  answers_alike words bytes one other (calls.of_input c given does fits to) (calls.alone d too not to') = absurd (reads_or_not words c d given too does not)
  answers_alike words bytes one other (calls.alone c given not to) (calls.of_words {e} too) = absurd (let q = said words (Ok c) (Err e) given too in cc)
  answers_alike words bytes one other (calls.alone c given not to) (calls.of_length d too does long) = absurd (reads_or_not words d c too given does not)
  answers_alike words bytes one other (calls.alone c given not to) (calls.of_input d too does fits to') = absurd (reads_or_not words d c too given does not)
  answers_alike words bytes one other (calls.alone c given not to) (calls.alone d too not' to') =
      alike d None one other (subst (λ (x : C). To x None one) (one_said words c d given too) to) to'

to_alike : (c : Command) (input : Option (List ℕ)) (one other : Answer) → AnswerTo c input one → AnswerTo c input other → IsAlike one other
to_alike c None one other to too = absurd to
to_alike c (Some bytes) one other (r, text, is) (s, text', is') = is ∙ ap answer_of (text_single bytes r s text text') ∙ sym is'

pub one_answer : (words : List (List ℕ)) (bytes : List ℕ) (one other : Answer) → IsAnswer words bytes one → IsAnswer words bytes other → IsAlike one other
one_answer = answers_alike IsAlike CommandOf reads AnswerTo (λ answer. refl) command_single to_alike
