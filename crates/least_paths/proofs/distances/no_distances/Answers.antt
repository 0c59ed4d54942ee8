use Rattle.least_paths.proofs.LevelLemmas.{replicate-more}
use Rattle.least_paths.proofs.distances.no_distances.Goals as goal

pub loop-preserved : goal.loop-preserved
loop-preserved c = replicate-more c.loop.counter c.loop.dist.items c.push.new.self.items c.loop.invariant c.in_ok-push.ensures.items
