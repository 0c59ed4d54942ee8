use Rattle.std.proofs.Common.{ℕ}
use Rattle.induced_deps.specs.Rows.{IsIn, Has, ArePassed, Follows, Nothing}
use Rattle.induced_deps.specs.Rounds.{room}
use Rattle.induced_deps.proofs.closure.Closure.behind.Given as goal

abbrev pub invariant-loop-v : goal.invariant-loop-v
invariant-loop-v l = record {
  own : (w : ℕ) → Has l.self.rows.items l.from w → IsIn l.all.words w;
  follow : (w : ℕ) → IsIn l.all.words w → Follows l.self.rows.items Nothing l.from w;
  passed : ArePassed l.self.rows.items l.passed.words l.all.words;
}

abbrev pub decreases-loop-v : goal.decreases-loop-v
decreases-loop-v l = room l.passed.words
