-- The steps from an input to its text give its result.
use Rattle.std.proofs.Common.{◌≡◌, ◌⊎◌, ℕ, List, Result, Ok, Err, inl, inr, sym, ap, subst, ◌∙◌}
use Rattle.lido_base.specs.Phases.{IsThe, OneOf, Then}
use Rattle.lido_base.specs.declared.pattern.Pattern.{Pattern}
use Rattle.lido_lexer.specs.declared.token.Token.{Token}
use Rattle.lido_syntax.specs.declared.spec.Spec.{Spec}
use Rattle.lido_computations.specs.Functions.{HasAll, IsAmong, known_words}
use Rattle.job_text.specs.declared.cutting.Sections.{Sections}
use Rattle.lido_base.proofs.PhasesLemmas.{the_one_of, one_as, none_as}
use Rattle.sum_trees.specs.declared.form.FormFault.{FormFault}
use Rattle.sum_trees.specs.declared.form.FormFault.TheVariants as fault
use Rattle.order_report.specs.declared.status.Status.TheVariants as status
use Rattle.lido_top.specs.Endings.{Ending, GivesAs, plainly, no_memory}
use Rattle.lido_top.specs.Job.{IsResult}
use Rattle.lido_top.specs.Verdict.{behind_spec, size_of, SectionsOf, TokensOf, SyntaxOf, PatternsOf, FirstPathOf, TextOf}
use Rattle.lido_top.proofs.Wrapping.{gives_next, gives_stop}
use Rattle.lido_top.specs.Steps.{ValueOf, NumberOf}

number_on : (bytes text : List ℕ) → NumberOf bytes (Ok text) → IsResult bytes text
unfolding NumberOf ValueOf OneOf
number_on bytes text (inl (tree_text, job, inl (nodes, tree, inl (values, sums, number)))) =
    record { tree_text = tree_text; job = job; nodes = nodes; tree = tree; values = values; only = sums.0; stay = sums.1; number = number }
number_on bytes text (inl (tree_text, job, inl (nodes, tree, inr (e, none, is)))) = absurd (cc)
number_on bytes text (inl (tree_text, job, inr (e, none, is))) = absurd (cc)
number_on bytes text (inr (e, none, is)) = absurd (cc)

number_back : (bytes text : List ℕ) → IsResult bytes text → NumberOf bytes (Ok text)
unfolding NumberOf ValueOf OneOf
number_back bytes text r = inl (r.tree_text, r.job, inl (r.nodes, r.tree, inl (r.values, (r.only, r.stay), r.number)))

number_faults : (bytes : List ℕ) (e : FormFault) → NumberOf bytes (Err e) → e ≡ fault.Outside
unfolding NumberOf ValueOf OneOf
number_faults bytes e (inl (tree_text, job, inl (nodes, tree, inl (values, sums, none)))) = none.0
number_faults bytes e (inl (tree_text, job, inl (nodes, tree, inr (f, none, is)))) = let same : e ≡ f = cc in same ∙ none.0
number_faults bytes e (inl (tree_text, job, inr (f, none, is))) = let same : e ≡ f = cc in same ∙ none.0
number_faults bytes e (inr (f, none, is)) = let same : e ≡ f = cc in same ∙ none.0

the_result : (bytes : List ℕ) (r : Result (List ℕ) FormFault) → IsThe (NumberOf bytes) r → IsThe (OneOf (IsResult bytes) fault.Outside) r
the_result bytes r the = the_one_of (NumberOf bytes) (IsResult bytes) fault.Outside (number_on bytes) (number_back bytes) (number_faults bytes) r the

pub text_some : (bytes text : List ℕ) → IsThe (NumberOf bytes) (Ok text) → IsThe (FirstPathOf bytes) (Ok text)
unfolding FirstPathOf
text_some bytes text the = one_as (IsResult bytes) fault.Outside (plainly status.FirstPathOnly) text (the_result bytes (Ok text) the)

pub text_none : (bytes : List ℕ) (e : FormFault) → e ≡ fault.Outside → (e ≡ fault.Memory) ⊎ IsThe (NumberOf bytes) (Err e) → IsThe (FirstPathOf bytes) (Err (plainly status.FirstPathOnly))
unfolding FirstPathOf
text_none bytes e is (inl memory) = absurd (cc)
text_none bytes e is (inr the) = none_as (IsResult bytes) fault.Outside e (plainly status.FirstPathOnly) (the_result bytes (Err e) the)

-- ---- the text of an input, phase by phase

-- what comes behind the form of the specification
abbrev pub BehindSyntax : List ℕ → Sections → List (List ℕ) × List Token → Spec → Result (List ℕ) Ending → Type 0
BehindSyntax bytes sections read = λ spec. Then (PatternsOf (behind_spec read) bytes sections) (λ patterns. FirstPathOf bytes)

-- what comes behind the tokens
abbrev pub BehindTokens : List ℕ → Sections → List (List ℕ) × List Token → Result (List ℕ) Ending → Type 0
BehindTokens bytes sections = λ read. Then (SyntaxOf read (size_of sections.spec)) (BehindSyntax bytes sections read)

-- what comes behind the sections
abbrev pub BehindSections : List ℕ → Sections → Result (List ℕ) Ending → Type 0
BehindSections bytes = λ sections. Then (TokensOf known_words bytes sections) (BehindTokens bytes sections)

module _ {X F : Type 0} (view : X → List ℕ) (see : F → Ending) (bytes : List ℕ) where
  pub sections_stop : (e : F) → (see e ≡ no_memory) ⊎ IsThe (SectionsOf bytes) (Err (see e)) → GivesAs view see (TextOf bytes) no_memory (Err e)
  unfolding TextOf
  sections_stop e given = gives_stop view see (SectionsOf bytes) (BehindSections bytes) no_memory e given

  pub sections_next : (s : Sections) (r : Result X F) → IsThe (SectionsOf bytes) (Ok s) → GivesAs view see (BehindSections bytes s) no_memory r → GivesAs view see (TextOf bytes) no_memory r
  unfolding TextOf
  sections_next s r first next = gives_next view see (SectionsOf bytes) (BehindSections bytes) no_memory s r first next

  module _ (s : Sections) (texts : List (List ℕ)) (table : texts ≡ known_words) where
    pub tokens_stop : (e : F) → (see e ≡ no_memory) ⊎ IsThe (TokensOf texts bytes s) (Err (see e)) → GivesAs view see (BehindSections bytes s) no_memory (Err e)
    tokens_stop e given = gives_stop view see (TokensOf known_words bytes s) (BehindTokens bytes s) no_memory e
        (subst (λ (l : List (List ℕ)). (see e ≡ no_memory) ⊎ IsThe (TokensOf l bytes s) (Err (see e))) table given)

    pub tokens_next : (read : List (List ℕ) × List Token) (r : Result X F) → IsThe (TokensOf texts bytes s) (Ok read) → GivesAs view see (BehindTokens bytes s read) no_memory r
        → GivesAs view see (BehindSections bytes s) no_memory r
    tokens_next read r first next = gives_next view see (TokensOf known_words bytes s) (BehindTokens bytes s) no_memory read r
        (subst (λ (l : List (List ℕ)). IsThe (TokensOf l bytes s) (Ok read)) table first) next

  module _ (s : Sections) (texts : List (List ℕ)) (tokens seen : List Token) (same : seen ≡ tokens) where
    pub syntax_stop : (e : F) → (see e ≡ no_memory) ⊎ IsThe (SyntaxOf (texts, seen) (size_of s.spec)) (Err (see e)) → GivesAs view see (BehindTokens bytes s (texts, tokens)) no_memory (Err e)
    syntax_stop e given = gives_stop view see (SyntaxOf (texts, tokens) (size_of s.spec)) (BehindSyntax bytes s (texts, tokens)) no_memory e
        (subst (λ (l : List Token). (see e ≡ no_memory) ⊎ IsThe (SyntaxOf (texts, l) (size_of s.spec)) (Err (see e))) same given)

    pub syntax_next : (spec : Spec) (r : Result X F) → IsThe (SyntaxOf (texts, seen) (size_of s.spec)) (Ok spec) → GivesAs view see (BehindSyntax bytes s (texts, tokens) spec) no_memory r
        → GivesAs view see (BehindTokens bytes s (texts, tokens)) no_memory r
    syntax_next spec r first next = gives_next view see (SyntaxOf (texts, tokens) (size_of s.spec)) (BehindSyntax bytes s (texts, tokens)) no_memory spec r
        (subst (λ (l : List Token). IsThe (SyntaxOf (texts, l) (size_of s.spec)) (Ok spec)) same first) next

    module _ (later : List (List ℕ)) (table : later ≡ behind_spec (texts, seen)) (spec : Spec) where
      behind : later ≡ behind_spec (texts, tokens)
      behind = table ∙ ap (λ (l : List Token). behind_spec (texts, l)) same

      pub patterns_stop : (e : F) → (see e ≡ no_memory) ⊎ IsThe (PatternsOf later bytes s) (Err (see e)) → GivesAs view see (BehindSyntax bytes s (texts, tokens) spec) no_memory (Err e)
      patterns_stop e given = gives_stop view see (PatternsOf (behind_spec (texts, tokens)) bytes s) (λ patterns. FirstPathOf bytes) no_memory e
          (subst (λ (l : List (List ℕ)). (see e ≡ no_memory) ⊎ IsThe (PatternsOf l bytes s) (Err (see e))) behind given)

      pub patterns_next : (patterns : List Pattern) (r : Result X F) → IsThe (PatternsOf later bytes s) (Ok patterns) → GivesAs view see (FirstPathOf bytes) no_memory r
          → GivesAs view see (BehindSyntax bytes s (texts, tokens) spec) no_memory r
      patterns_next patterns r first next = gives_next view see (PatternsOf (behind_spec (texts, tokens)) bytes s) (λ patterns. FirstPathOf bytes) no_memory patterns r
          (subst (λ (l : List (List ℕ)). IsThe (PatternsOf l bytes s) (Ok patterns)) behind first) next

pub all_known : (texts : List (List ℕ)) → texts ≡ known_words → HasAll known_words texts
all_known texts table = record { each = λ name among. subst (λ (l : List (List ℕ)). IsAmong l name) (sym table) among }
