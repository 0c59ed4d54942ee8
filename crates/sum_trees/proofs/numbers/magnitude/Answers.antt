use Rattle.std.proofs.Common.{sym, ◌∙◌, arith, rules}
use Rattle.sum_trees.proofs.Said.{said_step, said_rest, too_large}
use Rattle.sum_trees.proofs.numbers.magnitude.Goals as goal

pub returns-then-value : goal.returns-then-value
returns-then-value c = λ small. omega (arith, too_large c.loop-b.value c.loop-b.b-index c.args.digits.now (omega arith) (omega arith), c.loop-b.invariant)

pub loop-b-preserved : goal.loop-b-preserved
loop-b-preserved c = said_step c.loop-b.value c.loop-b.b-index _ _ c.args.digits.now (omega arith) (search rules) c.loop-b.invariant

pub returns-then-value-2 : goal.returns-then-value-2
returns-then-value-2 c = λ small. omega (arith, said_rest c.loop-b.value c.loop-b.b-index c.args.digits.now (omega arith), c.loop-b.invariant)

pub returns : goal.returns
returns c =
    let e = sym (said_rest c.loop-b.value c.loop-b.b-index c.args.digits.now (omega arith)) ∙ c.loop-b.invariant in
    (omega (arith, e), e)
