use Rattle.std.proofs.Common.{◌∙◌, Option, take_all, List, ℕ, ap}
use Rattle.std.specs.Prelude.{map, is_some}
use Rattle.least_paths.specs.Graph.{has_edge, is_in}
use Rattle.least_paths.proofs.PathLemmas.{reached}
use Rattle.least_paths.proofs.distances.reaching.Goals as goal

pub returns-clause-exactly : goal.returns-clause-exactly
returns-clause-exactly c = reached (is_in c.args.sources.now) (has_edge c.args.next.now) c.in_ok-dist.dist.items c.loop-d.set.items c.in_ok-dist.ensures.distances
    (c.loop-d.invariant ∙ ap (λ (xs : List (Option ℕ)). map is_some xs) (take_all c.loop-d.d-index c.deref-d-items.result.now c.loop-d-test.false ∙ c.deref-d-items.ensures.value))
