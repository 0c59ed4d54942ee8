use Rattle.std.proofs.Common.{arith}
use Rattle.least_paths.proofs.GraphLemmas.{sources-next, in-below}
use Rattle.least_paths.proofs.distances.sources_of.Goals as goal

pub loop-x-preserved : goal.loop-x-preserved
loop-x-preserved c = sources-next c.args.sources.now c.loop-x.x c.loop-x.front.items c.add_source.new.front.items c.loop-x.invariant c.in_ok-add_source.ensures

pub returns : goal.returns
returns c = λ x. ((λ m. ((c.loop-x.invariant x).0 m).1), (λ h. (c.loop-x.invariant x).1 ((omega (arith, in-below c.args.sources.now x h, c.loop-x-test.false)), h)))
