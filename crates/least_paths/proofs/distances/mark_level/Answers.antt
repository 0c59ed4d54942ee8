use Rattle.std.proofs.Common.{List, ℕ, subst, get_or, arith}
use Rattle.std.specs.Prelude.{Contains}
use Rattle.std.proofs.lemmas.Option.{slice_get-get_or}
use Rattle.least_paths.specs.Graph.{row_of}
use Rattle.least_paths.proofs.MarkLemmas.{marked-row}
use Rattle.least_paths.proofs.distances.mark_level.Goals as goal

pub mark_row-requires : goal.mark_row-requires
mark_row-requires c = λ x m. omega (arith, c.requires x (get_or c.args.front.now c.loop-y.y-index 0) (subst (λ (r : List ℕ). Contains r x) c.row.ensures m), c.loop-y.invariant.count)

pub loop-y-preserved : goal.loop-y-preserved
loop-y-preserved c = marked-row c.args.dist.now.items c.loop-y.dist.items c.mark_row.new.dist.items (row_of c.args.back.now) c.args.front.now c.loop-y.y-index (get_or c.args.front.now c.loop-y.y-index 0) c.args.d
    c.row.result.now c.loop-y.added.items c.mark_row.new.added.items (slice_get-get_or c.args.front.now c.loop-y.y-index 0 c.loop-y-test.true) c.row.ensures c.loop-y.invariant c.in_ok-mark_row.ensures
