use Rattle.std.proofs.Common.{Option, length, List, ℕ, sym, subst}
use Rattle.least_paths.specs.Graph.{has_edge, is_in}
use Rattle.least_paths.specs.Distances.{AreDistances}
use Rattle.least_paths.specs.Path.{IsBestBelow}
use Rattle.least_paths.proofs.PathLemmas.{least-start, no-start}
use Rattle.least_paths.proofs.path.least_path.Goals as goal

pub returns-in-None-clause-none : goal.returns-in-None-clause-none
returns-in-None-clause-none c = λ path q.
    no-start (is_in c.args.sources.now) (has_edge c.args.next.now) c.in_ok-dist.dist.items c.in_ok-dist.ensures.distances c.args.starts.now path
    (subst (λ (o : Option ℕ). IsBestBelow c.args.starts.now c.in_ok-dist.dist.items (length c.args.starts.now) o) c.in-None.is
    (subst (λ (d : List (Option ℕ)). IsBestBelow c.args.starts.now d (length c.args.starts.now) c.best_start.result) c.deref.ensures.value c.best_start.ensures)) q

pub returns-clause-least : goal.returns-clause-least
returns-clause-least c =
    let are = c.in_ok-dist.ensures.distances in
    least-start (is_in c.args.sources.now) (has_edge c.args.next.now) c.in_ok-dist.dist.items are c.args.starts.now c.in-Some.start c.in_ok-walk-in-Some.field-0.items
    (subst (λ (o : Option ℕ). IsBestBelow c.args.starts.now c.in_ok-dist.dist.items (length c.args.starts.now) o) c.in-Some.is
    (subst (λ (d : List (Option ℕ)). IsBestBelow c.args.starts.now d (length c.args.starts.now) c.best_start.result) c.deref.ensures.value c.best_start.ensures))
    (c.in_ok-walk-in-Some.ensures (is_in c.args.sources.now) (subst (λ (d : List (Option ℕ)). AreDistances (is_in c.args.sources.now) (has_edge c.args.next.now) d) (sym c.deref-in-Some.ensures.value) are))
