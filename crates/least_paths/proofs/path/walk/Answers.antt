use Rattle.std.proofs.Common.{◌∙◌, [], ◌∷◌, ◌++◌, List, ℕ, sym, ap, subst, arith}
use Rattle.std.specs.Prelude.{nat_eq}
use Rattle.std.proofs.lemmas.List.{append_assoc}
use Rattle.lido_base.specs.Reach.{IsLeastPath}
use Rattle.least_paths.specs.Graph.{has_edge}
use Rattle.least_paths.specs.Distances.{IsAt}
use Rattle.least_paths.proofs.GraphLemmas.{edge-test}
use Rattle.least_paths.proofs.PathLemmas.{step-to, distance-at, walk-end, least-step}
use Rattle.least_paths.proofs.path.walk.Goals as goal

pub loop-w-smaller : goal.loop-w-smaller
loop-w-smaller c =
    let at = c.loop-w.invariant.at in
    let h = step-to (has_edge c.args.next.now) c.args.dist.now c.loop-w.v c.in-Some.w at.0 c.step.result (c.step.ensures at.0 at.1) c.in-Some.is in
    omega (arith, distance-at c.args.dist.now c.loop-w.v at.0 at.1, distance-at c.args.dist.now c.in-Some.w h.0 h.3, h.1)

pub loop-w-preserved : goal.loop-w-preserved
loop-w-preserved c =
    let at = c.loop-w.invariant.at in
    let w = c.loop-w.invariant.walked in
    let h = step-to (has_edge c.args.next.now) c.args.dist.now c.loop-w.v c.in-Some.w at.0 c.step.result (c.step.ensures at.0 at.1) c.in-Some.is in
    record {
      vertex = c.requires.graph c.loop-w.v c.in-Some.w (edge-test c.args.next.now c.loop-w.v c.in-Some.w h.2);
      at = (h.0, h.3);
      walked = (
        w.0 ++ c.loop-w.v ∷ [],
        c.in_ok-push-2.ensures.items ∙ ap (λ (xs : List ℕ). xs ++ c.in-Some.w ∷ []) w.1,
        λ is_source are rest least. subst (λ (xs : List ℕ). IsLeastPath (nat_eq c.args.start) is_source (has_edge c.args.next.now) xs) (sym (append_assoc w.0 (c.loop-w.v ∷ []) rest))
            (w.2 is_source are (c.loop-w.v ∷ rest) (least-step is_source (has_edge c.args.next.now) c.args.dist.now are c.loop-w.v c.in-Some.w h.0
            (subst (λ z. IsAt c.args.dist.now c.loop-w.v z) h.1 at.1) h.2 h.3 h.4 rest least)),
      );
    }

pub returns : goal.returns
returns c = λ is_source are.
    let at = c.loop-w.invariant.at in
    let w = c.loop-w.invariant.walked in
    subst (λ (xs : List ℕ). IsLeastPath (nat_eq c.args.start) is_source (has_edge c.args.next.now) xs) (sym w.1)
    (w.2 is_source are (c.loop-w.v ∷ []) (walk-end is_source (has_edge c.args.next.now) c.args.dist.now are c.loop-w.v at.0 c.step.result at.1 (c.step.ensures at.0 at.1) c.in_default.not-Some))
