use Rattle.std.proofs.Common.{◌<◌, ℕ, List, length, ap, sym, ◌∙◌, subst, arith}
use Rattle.std.proofs.lemmas.List.{length-drop}
use Rattle.lido_lexer.specs.Bytes.{octal_front, value_in}
use Rattle.lido_lexer.proofs.Runs.{octal_within}
use Rattle.lido_lexer.proofs.BytesLemmas.{some_of, above}
use Rattle.lido_lexer.proofs.PartsLemmas.{octal_part, escape_part, large_no_part}
use Rattle.lido_lexer.proofs.quoted.escape_front.Goals as goal

pub returns-in-Some-clause-some : goal.returns-in-Some-clause-some
returns-in-Some-clause-some c = octal_part
    (some_of c.is_empty.result c.split_octal.result.0.now (octal_front c.args.inner.now) c.is_empty.ensures c.if-not-is_empty.true c.split_octal.ensures.front)
    (c.in-Some.ensures.1 ∙ ap (value_in 8) c.split_octal.ensures.front)
    (omega (arith, c.in-Some.ensures.0, c.in-Some.ensures.1))
    c.split_octal.ensures.rest

pub returns-in-Some-clause-shorter : goal.returns-in-Some-clause-shorter
returns-in-Some-clause-shorter c = omega (
  arith,
  some_of c.is_empty.result c.split_octal.result.0.now (octal_front c.args.inner.now) c.is_empty.ensures c.if-not-is_empty.true c.split_octal.ensures.front,
  octal_within c.args.inner.now,
  ap length c.split_octal.ensures.rest,
  length-drop (length (octal_front c.args.inner.now)) c.args.inner.now,
)

pub returns-in-None-clause-none : goal.returns-in-None-clause-none
returns-in-None-clause-none c = λ byte rest it. large_no_part
    (some_of c.is_empty.result c.split_octal.result.0.now (octal_front c.args.inner.now) c.is_empty.ensures c.if-not-is_empty.true c.split_octal.ensures.front)
    (subst (λ (l : List ℕ). 255 < value_in 8 l) c.split_octal.ensures.front (above _ 255 c.in-None.ensures)) it

pub returns-in-Some-escaped-clause-some : goal.returns-in-Some-escaped-clause-some
returns-in-Some-escaped-clause-some c = escape_part c.in_ok-letter.ensures.cases.0 (sym c.in-Some-escaped.ensures)
