use Rattle.induced_deps.proofs.WordLemmas.{up_bits}
use Rattle.induced_deps.proofs.shifts.moved_up.Goals as goal

pub returns-then-by-lt128 : goal.returns-then-by-lt128
returns-then-by-lt128 c = λ k. up_bits c.args.word c.args.by 128 k
