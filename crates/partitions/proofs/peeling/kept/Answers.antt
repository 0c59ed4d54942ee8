use Rattle.std.proofs.Common.{◌≡◌, ◌+◌, ◌∙◌, Some, ap, sym, subst, arith}
use Rattle.std.specs.Prelude.{false, true, slice_get}
use Rattle.std.proofs.lemmas.Option.{slice_get-get_or}
use Rattle.partitions.specs.Peeling.{IsKept}
use Rattle.partitions.proofs.PeelingLemmas.{IsFound, found-one, found-not, found-all, kept-at, kept-of, kept-below}
use Rattle.partitions.proofs.peeling.kept.Goals.{then-is_kept, else-is_kept}
use Rattle.partitions.proofs.peeling.kept.Goals as goal

pub loop-a-preserved : goal.loop-a-preserved
loop-a-preserved c =
    let rows = c.args.rows.now in
    let at : slice_get rows c.loop-a.a ≡ Some c.index-rows-a.result = slice_get-get_or rows c.loop-a.a c.index-rows-a.result c.loop-a-test.true ∙ ap Some (sym c.index-rows-a.is) in
    elim c.if-is_kept.branch [
      | then-is_kept w ↦ subst (λ left. IsFound (IsKept rows c.args.set c.args.allowed) (c.loop-a.a + 1) left) (sym w.left-is)
          (found-one (IsKept rows c.args.set c.args.allowed) c.loop-a.a c.loop-a.left w.with-left.result c.loop-a.invariant w.with-left.ensures
          (let h = c.is_kept.ensures.0 w.if-is_kept.true in kept-at rows c.args.set c.args.allowed c.loop-a.a c.index-rows-a.result at h.0 h.1))
      | else-is_kept w ↦ subst (λ left. IsFound (IsKept rows c.args.set c.args.allowed) (c.loop-a.a + 1) left) (sym w.left-is)
          (found-not (IsKept rows c.args.set c.args.allowed) c.loop-a.a c.loop-a.left c.loop-a.invariant
          (λ h. let e : true ≡ false = sym (c.is_kept.ensures.1 (kept-of rows c.args.set c.args.allowed c.loop-a.a c.index-rows-a.result at h)) ∙ w.if-is_kept.false in absurd (cc)))
    ]

pub returns : goal.returns
returns c = found-all (IsKept c.args.rows.now c.args.set c.args.allowed) c.loop-a.a c.loop-a.left c.loop-a.invariant (λ j h. let below = kept-below c.args.rows.now c.args.set c.args.allowed j h in omega arith)
