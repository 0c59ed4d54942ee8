use Rattle.std.proofs.Common.{ℕ, length, ap, sym, arith}
use Rattle.std.proofs.lemmas.List.{length-take, length-drop}
use Rattle.lido_lexer.proofs.SignsLemmas.{sign_within}
use Rattle.lido_lexer.proofs.sign.sign_front.Goals as goal

pub slice_bounds-result-count : goal.slice_bounds-result-count
slice_bounds-result-count c = omega (arith, sign_within c.args.bytes.now c.in-Some.sign (sym c.in-Some.ensures), ap length c.spelling.ensures.bytes)

pub slice_bounds-result-start : goal.slice_bounds-result-start
slice_bounds-result-start c = omega (arith, sign_within c.args.bytes.now c.in-Some.sign (sym c.in-Some.ensures), ap length c.spelling.ensures.bytes)

pub returns-in-Some-clause-shorter : goal.returns-in-Some-clause-shorter
returns-in-Some-clause-shorter c = omega (arith, length-take {A = ℕ}, length-drop {A = ℕ}, sign_within c.args.bytes.now c.in-Some.sign (sym c.in-Some.ensures), ap length c.spelling.ensures.bytes)
