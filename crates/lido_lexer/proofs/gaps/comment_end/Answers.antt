use Rattle.std.proofs.Common.{◌∷◌, inr, arith}
use Rattle.lido_lexer.specs.Gaps.{EndsFirst, IsGap}
use Rattle.lido_lexer.proofs.Options.{if_some, if_none}
use Rattle.lido_lexer.proofs.GapsLemmas.{block_gap, line_gap, second_no_gap}
use Rattle.lido_lexer.proofs.gaps.comment_end.Goals as goal

pub returns-then-second-eq42-clause-some : goal.returns-then-second-eq42-clause-some
returns-then-second-eq42-clause-some c =
    if_some c.block_end.result (λ rest. EndsFirst c.in_ok-second.body.now rest.now) (λ rest. IsGap (47 ∷ c.args.inner.now) rest.now)
    (λ rest ends. block_gap c.in_ok-second.ensures.cases.0 c.if-second-eq42.true ends) c.block_end.ensures.some

pub returns-then-second-eq42-clause-none : goal.returns-then-second-eq42-clause-none
returns-then-second-eq42-clause-none c = if_none c.block_end.result
    (λ none rest. second_no_gap c.in_ok-second.ensures.cases.0 (inr (none rest)) (λ slash. omega (arith, slash, c.if-second-eq42.true))) c.block_end.ensures.none

pub returns-then-second-eq47-clause-some : goal.returns-then-second-eq47-clause-some
returns-then-second-eq47-clause-some c = line_gap c.in_ok-second.ensures.cases.0 c.if-second-eq47.true c.line_end.ensures
