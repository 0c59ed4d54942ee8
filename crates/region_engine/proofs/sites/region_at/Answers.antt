use Rattle.std.proofs.Common.{◌∙◌, arith}
use Rattle.core_machine.proofs.CursorReads.{region-read, region-count}
use Rattle.region_engine.proofs.sites.region_at.Goals as goal

pub bounds-as_slice-node : goal.bounds-as_slice-node
bounds-as_slice-node c =
    let e = region-count c.args.job.now c.as_slice.result.now (c.as_slice.ensures ∙ c.split.ensures.regions) in let h = c.requires in omega (arith, e, h)

pub returns-clause-region : goal.returns-clause-region
returns-clause-region c = region-read c.args.job.now c.as_slice.result.now c.args.node (c.as_slice.ensures ∙ c.split.ensures.regions) c.requires
