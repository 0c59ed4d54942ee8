use Rattle.std.proofs.Common.{ℕ}
use Rattle.induced_deps.specs.Rows.{IsIn, ArePassed, IsBehind}
use Rattle.induced_deps.specs.Rounds.{room}
use Rattle.induced_deps.proofs.closure.Closure.with_behind.Given as goal

abbrev pub invariant-loop-v : goal.invariant-loop-v
invariant-loop-v l = record {
  own : (w : ℕ) → IsIn l.set.words w → IsIn l.all.words w;
  only : (w : ℕ) → IsIn l.all.words w → IsBehind l.self.rows.items l.set.words w;
  passed : ArePassed l.self.rows.items l.passed.words l.all.words;
}

abbrev pub decreases-loop-v : goal.decreases-loop-v
decreases-loop-v l = room l.passed.words
