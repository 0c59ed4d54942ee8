use Rattle.std.proofs.Common.{◌≡◌, ◌+◌, ◌-◌, ◌%◌, arith, append_assoc}
use Rattle.std.proofs.lemmas.Fmt.{decimal_digit, decimal_step}
use Rattle.std.proofs.lemmas.List.{drop-set, length-set}
use Rattle.lido_base.proofs.DecimalLemmas.{longest, one_digit, one_digit_more}
use Rattle.lido_base.proofs.decimal.write_digits.Goals as goal

pub overflow_sub-at : goal.overflow_sub-at
overflow_sub-at c = omega (arith, longest c.args.number c.ranges.number.fits, one_digit_more c.loop-left.left (omega arith) (omega arith))

pub loop-left-preserved : goal.loop-left-preserved
loop-left-preserved c =
    let l = c.loop-left in
    let long = longest c.args.number c.ranges.number.fits in
    let step = one_digit_more l.left (omega arith) (omega arith) in
    let e : l.at - 1 + 1 ≡ l.at = omega arith in
    record {
      within = omega arith;
      size = omega (arith, length-set l.buffer (l.at - 1) (48 + l.left % 10));
      count = omega arith;
      written = rw (drop-set l.buffer (l.at - 1) _ (omega arith), e) (rw (decimal_step l.left (omega arith) (omega arith), append_assoc) at l.invariant.written);
    }

pub overflow_sub-at-2 : goal.overflow_sub-at-2
overflow_sub-at-2 c = omega (arith, longest c.args.number c.ranges.number.fits, one_digit c.loop-left.left (omega arith))

pub returns-clause-written : goal.returns-clause-written
returns-clause-written c =
    let l = c.loop-left in
    let long = longest c.args.number c.ranges.number.fits in
    let one = one_digit l.left (omega arith) in
    let e : l.at - 1 + 1 ≡ l.at = omega arith in
    rw (drop-set l.buffer (l.at - 1) _ (omega arith), e) (rw (decimal_digit l.left (omega arith)) at l.invariant.written)

pub returns-clause-start : goal.returns-clause-start
returns-clause-start c = omega (arith, longest c.args.number c.ranges.number.fits, one_digit c.loop-left.left (omega arith))
