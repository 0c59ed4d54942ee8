use Rattle.std.specs.Prelude.{Contains, IsBitSet, MatchOption, slice_get, slice_index, take}
use Rattle.std.proofs.Common.{ap, subst, sym, refl, inl, ◌∙◌}
use Rattle.visit_sequences.specs.Steps.{AreSeen, IsFree, IsMissing}
use Rattle.visit_sequences.proofs.QueueLemmas.{missing-or-free, noted-here}
use Rattle.visit_sequences.proofs.queue.Queue.blocked.Goals as goal

pub returns-in-Some-clause-blocked : goal.returns-in-Some-clause-blocked
returns-in-Some-clause-blocked c = (inl (refl, c.in-Some.ensures.1), (λ b. c.in-Some.ensures.2 (subst (λ n. IsBitSet n c.in-Some.attr.0) (sym c.at_hand_at.ensures) b)))

pub returns-in-Some-clause-seen : goal.returns-in-Some-clause-seen
returns-in-Some-clause-seen c =
    (let p = c.args.progress.now in
    let g = c.args.goal.now in
    subst (λ l. AreSeen p g (slice_index l c.args.at)) (sym c.note.ensures.seen) (noted-here p g c.args.self.now.seen.items c.args.at c.seen_from-count.result c.requires
    (λ u m. c.seen_from-count.ensures.seen u (subst (λ l. Contains (take c.seen_from-count.result l) u) (sym c.as_slice.ensures.value) m))))

pub returns-clause-blocked : goal.returns-clause-blocked
returns-clause-blocked c =
    let p = c.args.progress.now in
    let g = c.args.goal.now in
    let n = c.seen_from-count.result in
    subst (λ found. MatchOption found (IsFree p g) (λ u. IsMissing p g u)) (sym c.dependency.ensures)
    (missing-or-free p g n (λ j b. subst (λ m. IsBitSet m j) c.at_hand_at.ensures (c.in_default.ensures j b)) (λ u m. c.seen_from-count.ensures.seen u (subst (λ l. Contains (take n l) u) (sym c.as_slice.ensures.value) m))
    (λ u at. c.seen_from-count.ensures.stops u (ap (λ l. slice_get l n) c.as_slice.ensures.value ∙ at)))

pub returns-clause-seen : goal.returns-clause-seen
returns-clause-seen c =
    (let p = c.args.progress.now in
    let g = c.args.goal.now in
    subst (λ l. AreSeen p g (slice_index l c.args.at)) (sym c.note.ensures.seen) (noted-here p g c.args.self.now.seen.items c.args.at c.seen_from-count.result c.requires
    (λ u m. c.seen_from-count.ensures.seen u (subst (λ l. Contains (take c.seen_from-count.result l) u) (sym c.as_slice.ensures.value) m))))
