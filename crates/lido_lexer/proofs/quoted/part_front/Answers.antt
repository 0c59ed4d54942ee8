use Rattle.std.proofs.Common.{List, ℕ, ◌∷◌, ap, ◌∙◌, subst}
use Rattle.lido_lexer.specs.Tokens.{IsPart}
use Rattle.lido_lexer.proofs.Options.{if_none}
use Rattle.lido_lexer.proofs.quoted.part_front.Goals as goal

pub returns-then-first-eq92-clause-none : goal.returns-then-first-eq92-clause-none
returns-then-first-eq92-clause-none c = if_none c.escape_front.result
    (λ none byte rest it. none byte rest (subst (λ (l : List ℕ). IsPart l byte rest) (c.in_ok-first.ensures.cases.0 ∙ ap (λ (b : ℕ). b ∷ c.in_ok-first.rest.now) c.if-first-eq92.true) it)) c.escape_front.ensures.none
