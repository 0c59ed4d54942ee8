use Rattle.least_paths.specs.Path.{IsBestBelow}
use Rattle.least_paths.proofs.path.best_start.Given as goal

-- the best so far
abbrev pub invariant-loop-s : goal.invariant-loop-s
invariant-loop-s l = IsBestBelow l.starts l.dist l.s l.best
