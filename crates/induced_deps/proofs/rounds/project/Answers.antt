use Rattle.std.proofs.Common.{◌≡◌, ◌∙◌, inl, inr, subst, sym, arith, true, false, true≢false, ◌⊎◌}
use Rattle.std.specs.Prelude.{Contains}
use Rattle.std.proofs.lemmas.List.{take_all}
use Rattle.induced_deps.proofs.RoundLemmas.{has_row_at, still_sound, still_same, still_all, still_less}
use Rattle.induced_deps.proofs.DueLemmas.{ready_kept, tells_then}
use Rattle.induced_deps.proofs.rounds.project.Goals as goal
use Rattle.induced_deps.proofs.rounds.project.Goals.{then-feed, else-feed}

pub feed-requires-clause-rows : goal.feed-requires-clause-rows
feed-requires-clause-rows c = has_row_at c.args.ids.now c.loop-place.ids c.args.places.now c.loop-place.place-index _ c.loop-place-test.true c.loop-place.invariant.sizes c.requires.rows

pub feed-requires-clause-ready : goal.feed-requires-clause-ready
feed-requires-clause-ready c = ready_kept c.args.due.now c.loop-place.due c.args.ids.now c.loop-place.ids c.loop-place.invariant.sizes c.loop-place.invariant.tells c.requires.ready

pub loop-place-preserved : goal.loop-place-preserved
loop-place-preserved c =
    let l = c.loop-place in
    let p = c.feed in
    let either : ((p.result ≡ true) × (c.if-feed.grew ≡ true)) ⊎ ((p.result ≡ false) × (c.if-feed.grew ≡ l.grew)) = elim c.if-feed.branch [ then-feed w ↦ inl (w.if-feed.true, w.grew-is) | else-feed w ↦ inr (w.if-feed.false, w.grew-is) ] in
    record {
      sizes = p.ensures.sizes ∙ l.invariant.sizes;
      sound = still_sound c.args.ids.now l.ids p.new.ids c.args.places.now c.args.closure.now.rows.items l.place-index _ l.grew p.result c.if-feed.grew c.loop-place-test.true either p.ensures.bits l.invariant.sound;
      tells = tells_then c.args.due.now l.due p.new.due c.args.ids.now l.ids p.new.ids l.invariant.tells p.ensures.tells;
      still = λ none. elim either [ inl new_one ↦ absurd (true≢false (sym new_one.1 ∙ none)) | inr other ↦ p.ensures.still other.0 ∙ l.invariant.still (sym other.1 ∙ none) ];
      same = still_same c.args.ids.now l.ids p.new.ids c.args.places.now c.args.closure.now.rows.items l.place-index _ l.grew p.result c.if-feed.grew c.loop-place-test.true either p.ensures.bits p.ensures.same l.invariant.same;
      all = still_all c.args.ids.now l.ids p.new.ids c.args.places.now c.args.closure.now.rows.items l.place-index _ l.grew p.result c.if-feed.grew c.loop-place-test.true either p.ensures.bits l.invariant.all;
      lighter = omega (arith, p.ensures.lighter, l.invariant.lighter);
      less = still_less c.args.ids.now l.ids p.new.ids c.args.places.now c.args.closure.now.rows.items l.place-index _ l.grew p.result c.if-feed.grew c.loop-place-test.true either p.ensures.bits p.ensures.lighter l.invariant.lighter p.ensures.less l.invariant.less;
    }

pub returns-clause-all : goal.returns-clause-all
returns-clause-all c = λ none x a b h. c.loop-place.invariant.all none x a b (h.0, subst (λ ps. Contains ps h.0) (sym (take_all c.loop-place.place-index c.args.places.now (omega (arith, c.loop-place.auto.place-index-end)))) h.1, h.2)
