use Rattle.std.proofs.Common.{length, ◌<◌}
use Rattle.lido_base.specs.Reading.{Leads}
use Rattle.lido_computations.specs.Computations.{AreMoreDependencies, AreSomeDependencies, continues_dependencies}
use Rattle.lido_computations.proofs.computations.some_dependencies.Given as goal

abbrev pub invariant-loop-more : goal.invariant-loop-more
invariant-loop-more l = record {
  leads : Leads (AreMoreDependencies (l.found.items, l.behind)) continues_dependencies l.rest (AreSomeDependencies l.fn.number) continues_dependencies l.tokens;
  shorter : length l.rest < length l.tokens;
}

abbrev pub decreases-loop-more : goal.decreases-loop-more
decreases-loop-more l = length l.rest
