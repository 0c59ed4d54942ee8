use Rattle.std.proofs.Common.{◌∙◌, ap, map, arith}
use Rattle.lido_base.specs.declared.ids.NodeId.{NodeId}
use Rattle.core_machine.proofs.CursorReads.{root-there}
use Rattle.core_machine.proofs.cursor.begin_of.Goals as goal

pub returns-else-region-eq0 : goal.returns-else-region-eq0
returns-else-region-eq0 c =
    root-there c.args.job.now c.as_slice.result.now c.args.region (record { 0 = 0 }) (ap (map (λ (n : NodeId). n.0)) c.as_slice.ensures ∙ c.split.ensures.nodes) c.requires (omega arith)
