use Rattle.std.proofs.Common.{arith}
use Rattle.lido_lexer.specs.Gaps.{at_once, one_more}
use Rattle.lido_lexer.proofs.gaps.skip_gaps.Goals as goal

pub loop-rest-init : goal.loop-rest-init
loop-rest-init c = record { past = at_once; bound = omega arith }

pub loop-rest-preserved : goal.loop-rest-preserved
loop-rest-preserved c = record { past = one_more c.loop-rest.invariant.past c.in-Some.ensures.some; bound = omega (arith, c.in-Some.ensures.shorter, c.loop-rest.invariant.bound) }
