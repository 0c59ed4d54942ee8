use Rattle.std.proofs.Common.{List, ℕ, ◌∷◌, sym, ap, ◌∙◌, subst}
use Rattle.lido_lexer.specs.Gaps.{IsGap}
use Rattle.lido_lexer.proofs.Options.{if_some, if_none}
use Rattle.lido_lexer.proofs.GapsLemmas.{white_gap}
use Rattle.lido_lexer.proofs.gaps.gap_front.Goals as goal

pub returns-then-is_white-clause-some : goal.returns-then-is_white-clause-some
returns-then-is_white-clause-some c = white_gap c.in_ok-first.ensures.cases.0 (sym c.is_white.ensures ∙ c.if-is_white.true)

pub returns-then-first-eq47-clause-some : goal.returns-then-first-eq47-clause-some
returns-then-first-eq47-clause-some c = if_some c.comment_end.result _ (λ rest. IsGap c.args.bytes.now rest.now)
    (λ rest gap. subst (λ (l : List ℕ). IsGap l rest.now) (sym (c.in_ok-first.ensures.cases.0 ∙ ap (λ (b : ℕ). b ∷ c.in_ok-first.rest.now) c.if-first-eq47.true)) gap) c.comment_end.ensures.some

pub returns-then-first-eq47-clause-none : goal.returns-then-first-eq47-clause-none
returns-then-first-eq47-clause-none c = if_none c.comment_end.result
    (λ none rest gap. none rest (subst (λ (l : List ℕ). IsGap l rest) (c.in_ok-first.ensures.cases.0 ∙ ap (λ (b : ℕ). b ∷ c.in_ok-first.rest.now) c.if-first-eq47.true) gap)) c.comment_end.ensures.none
