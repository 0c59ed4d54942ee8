use Rattle.std.proofs.Common.{arith}
use Rattle.job_text.proofs.NumberLemmas.{IsNextDigit, next_digit}
use Rattle.job_text.proofs.forms.number.Goals as goal

pub overflow_mul-value : goal.overflow_mul-value
overflow_mul-value c =
    let next : IsNextDigit c.args.digits.now c.loop-digit.digit-index = next_digit c.args.digits.now c.loop-digit.digit-index c.requires (omega arith) in
    omega arith

pub overflow_add-value : goal.overflow_add-value
overflow_add-value c =
    let next : IsNextDigit c.args.digits.now c.loop-digit.digit-index = next_digit c.args.digits.now c.loop-digit.digit-index c.requires (omega arith) in
    omega arith

pub loop-digit-preserved : goal.loop-digit-preserved
loop-digit-preserved c =
    let next : IsNextDigit c.args.digits.now c.loop-digit.digit-index = next_digit c.args.digits.now c.loop-digit.digit-index c.requires (omega arith) in
    omega arith
