use Rattle.std.proofs.Common.{get_or, arith}
use Rattle.std.proofs.lemmas.Option.{slice_get-get_or}
use Rattle.lido_base.proofs.Lists.{place-contains}
use Rattle.least_paths.proofs.MarkLemmas.{marked-push}
use Rattle.least_paths.proofs.distances.mark_row.Goals as goal

pub mark-requires : goal.mark-requires
mark-requires c = omega (arith, c.requires (get_or c.args.row.now c.loop-x.x-index 0) (place-contains c.args.row.now c.loop-x.x-index _ (slice_get-get_or c.args.row.now c.loop-x.x-index 0 c.loop-x-test.true)), c.loop-x.invariant.2.count)

pub loop-x-preserved : goal.loop-x-preserved
loop-x-preserved c = marked-push c.args.dist.now.items c.loop-x.dist.items c.mark.new.dist.items c.args.row.now c.loop-x.x-index (get_or c.args.row.now c.loop-x.x-index 0) c.args.d
    c.args.added.now.items c.loop-x.added.items c.mark.new.added.items (slice_get-get_or c.args.row.now c.loop-x.x-index 0 c.loop-x-test.true) c.loop-x.invariant c.in_ok-mark.ensures
