use Rattle.std.proofs.Common.{arith}
use Rattle.sum_trees.specs.Bytes.{is_digit}
use Rattle.sum_trees.proofs.Passing.{whole_front}
use Rattle.sum_trees.proofs.scan.digits_len.Goals as goal

pub returns-clause-front : goal.returns-clause-front
returns-clause-front c = whole_front is_digit c.args.bytes.now c.loop-i.i (omega arith) (omega arith) c.loop-i.invariant
