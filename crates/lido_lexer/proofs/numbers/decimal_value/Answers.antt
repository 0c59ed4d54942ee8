use Rattle.std.proofs.Common.{sym, ◌∙◌, arith, rules}
use Rattle.lido_lexer.proofs.Values.{value_step, value_rest, decimal_too_large}
use Rattle.lido_lexer.proofs.numbers.decimal_value.Goals as goal

pub returns-then-value-gt922337203685477580 : goal.returns-then-value-gt922337203685477580
returns-then-value-gt922337203685477580 c = λ small. omega (arith, decimal_too_large c.loop-b.value c.loop-b.b-index c.args.digits.now (omega arith) (omega arith), c.loop-b.invariant)

pub loop-b-preserved : goal.loop-b-preserved
loop-b-preserved c = value_step 10 c.loop-b.value c.loop-b.b-index _ _ c.args.digits.now (omega arith) (search rules) c.loop-b.invariant

pub returns-then-value-gt9223372036854775807 : goal.returns-then-value-gt9223372036854775807
returns-then-value-gt9223372036854775807 c = λ small. omega (arith, value_rest 10 c.loop-b.value c.loop-b.b-index c.args.digits.now (omega arith), c.loop-b.invariant)

pub returns : goal.returns
returns c =
    let e = sym (value_rest 10 c.loop-b.value c.loop-b.b-index c.args.digits.now (omega arith)) ∙ c.loop-b.invariant in
    (omega (arith, e), e)
