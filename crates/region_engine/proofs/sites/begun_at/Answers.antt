use Rattle.std.proofs.Common.{◌≡◌, ◌∙◌, ap, sym, map, arith, Some}
use Rattle.lido_base.specs.declared.ids.NodeId.{NodeId}
use Rattle.core_machine.proofs.CursorReads.{split-read, begun, not-begun, not-begun-zero}
use Rattle.region_engine.proofs.sites.begun_at.Goals as goal
use Rattle.region_engine.proofs.sites.begun_at.Goals.{else-region-gt0-via-then-region-gt0+else-as_slice-region, else-region-gt0-via-else-region-gt0}

pub bounds-as_slice-region : goal.bounds-as_slice-region
bounds-as_slice-region c =
    (split-read c.args.job.now c.facts.ensures c.as_slice.result.now c.args.node c.region_at-region.result (record { 0 = 0 })
    (ap (map (λ (n : NodeId). n.0)) c.as_slice.ensures ∙ c.split.ensures.nodes) c.region_at-region.ensures.region c.if-region-gt0.true).0

pub returns-then-as_slice-region : goal.returns-then-as_slice-region
returns-then-as_slice-region c =
    let is = (split-read c.args.job.now c.facts.ensures c.as_slice.result.now c.args.node c.region_at-region.result (record { 0 = 0 })
    (ap (map (λ (n : NodeId). n.0)) c.as_slice.ensures ∙ c.split.ensures.nodes) c.region_at-region.ensures.region c.if-region-gt0.true).1 in
    let b = begun c.args.job.now c.facts.ensures c.args.node c.region_at-region.result (sym c.region_at-region.ensures.region) (is ∙ ap Some c.if-as_slice-region.true) in
    (b.0, b.1, c.if-region-gt0.true, c.region_at-region.ensures.small)

pub returns-else-region-gt0 : goal.returns-else-region-gt0
returns-else-region-gt0 c = elim c.else-region-gt0.branch [
  | else-region-gt0-via-then-region-gt0+else-as_slice-region w ↦
      (let is = (split-read c.args.job.now c.facts.ensures w.as_slice.result.now c.args.node c.region_at-region.result (record { 0 = 0 })
      (ap (map (λ (n : NodeId). n.0)) w.as_slice.ensures ∙ w.split.ensures.nodes) c.region_at-region.ensures.region w.if-region-gt0.true).1 in
      not-begun c.args.job.now c.facts.ensures c.args.node _ c.region_at-region.result (sym c.region_at-region.ensures.region) is w.if-as_slice-region.false)
  | else-region-gt0-via-else-region-gt0 w ↦
      (let z : c.region_at-region.result ≡ 0 = omega (arith, w.if-region-gt0.false) in
      not-begun-zero c.args.job.now c.facts.ensures c.args.node (sym c.region_at-region.ensures.region ∙ z))
]
