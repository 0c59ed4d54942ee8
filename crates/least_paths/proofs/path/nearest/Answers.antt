use Rattle.std.proofs.Common.{take, take_all, List, ℕ, sym, subst, get_or}
use Rattle.std.proofs.lemmas.Option.{slice_get-get_or}
use Rattle.lido_base.proofs.Lists.{place-contains}
use Rattle.least_paths.specs.Path.{IsNearest}
use Rattle.least_paths.proofs.GraphLemmas.{take-next}
use Rattle.least_paths.proofs.path.nearest.Goals as goal

pub lesser-least-requires : goal.lesser-least-requires
lesser-least-requires c = c.requires (get_or c.args.row.now c.loop-x.x-index 0) (place-contains c.args.row.now c.loop-x.x-index _ (slice_get-get_or c.args.row.now c.loop-x.x-index 0 c.loop-x-test.true))

pub loop-x-preserved : goal.loop-x-preserved
loop-x-preserved c = subst (λ (vs : List ℕ). IsNearest vs c.args.dist.now c.args.d c.lesser-least.result) (sym (take-next c.args.row.now c.loop-x.x-index (get_or c.args.row.now c.loop-x.x-index 0) (slice_get-get_or c.args.row.now c.loop-x.x-index 0 c.loop-x-test.true)))
    (c.lesser-least.ensures (take c.loop-x.x-index c.args.row.now) c.loop-x.invariant)

pub returns : goal.returns
returns c = subst (λ (vs : List ℕ). IsNearest vs c.args.dist.now c.args.d c.loop-x.least) (take_all c.loop-x.x-index c.args.row.now c.loop-x-test.false) c.loop-x.invariant
