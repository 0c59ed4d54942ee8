use Rattle.std.proofs.Common.{sym, ◌∙◌, arith, rules}
use Rattle.lido_lexer.proofs.Values.{value_step, value_rest, octal_too_large}
use Rattle.lido_lexer.proofs.quoted.octal_value.Goals as goal

pub returns-then-value-gt255 : goal.returns-then-value-gt255
returns-then-value-gt255 c = λ small. omega (arith, octal_too_large c.loop-b.value c.loop-b.b-index c.args.digits.now (omega arith) (omega arith), c.loop-b.invariant)

pub loop-b-preserved : goal.loop-b-preserved
loop-b-preserved c = value_step 8 c.loop-b.value c.loop-b.b-index _ _ c.args.digits.now (omega arith) (search rules) c.loop-b.invariant

pub returns-then-value-gt255-2 : goal.returns-then-value-gt255-2
returns-then-value-gt255-2 c = λ small. omega (arith, value_rest 8 c.loop-b.value c.loop-b.b-index c.args.digits.now (omega arith), c.loop-b.invariant)

pub returns : goal.returns
returns c =
    let e = sym (value_rest 8 c.loop-b.value c.loop-b.b-index c.args.digits.now (omega arith)) ∙ c.loop-b.invariant in
    (omega (arith, e), e)
