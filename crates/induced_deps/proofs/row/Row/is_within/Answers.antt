use Rattle.std.proofs.Common.{arith, refl}
use Rattle.induced_deps.specs.Rows.{IsPart}
use Rattle.induced_deps.proofs.RowLemmas.{part_whole}
use Rattle.induced_deps.proofs.row.Row.is_within.Goals as goal

pub returns : goal.returns
returns c = (λ yes. part_whole c.args.self.now.words c.args.other.now.words c.loop-k.k (omega arith) c.loop-k.invariant, λ part. refl)

pub returns-then-not-is_within : goal.returns-then-not-is_within
unfolding IsPart
returns-then-not-is_within c = (λ is. absurd cc, λ part. let yes = c.is_within.ensures.1 (part c.loop-k.k) in cc)
