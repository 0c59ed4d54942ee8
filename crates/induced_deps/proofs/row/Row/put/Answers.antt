use Rattle.std.proofs.Common.{arith}
use Rattle.induced_deps.proofs.WordLemmas.{put_in}
use Rattle.induced_deps.proofs.row.Row.put.Goals as goal

pub returns-then-i-lt-WORDS : goal.returns-then-i-lt-WORDS
returns-then-i-lt-WORDS c = λ j. put_in c.args.self.now.words c.args.i c.args.word c.union.result (omega arith) c.if-i-lt-WORDS.true c.union.ensures.members j
