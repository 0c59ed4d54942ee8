use Rattle.std.specs.Prelude.{map}
use Rattle.std.proofs.Common.{◌∙◌, ap}
use Rattle.kind_clashes.proofs.LeastLemmas.{first-at, first-join}
use Rattle.kind_clashes.proofs.sides.rule_comp_clash.Goals as goal

pub comp_clash-requires : goal.comp_clash-requires
comp_clash-requires c = ap (λ es. map (λ e. e.now) es) c.as_slice-2.ensures.value ∙ c.in_ok-all.ensures

pub returns : goal.returns
returns c = first-join c.earlier.ensures c.comp_clash.ensures (first-join c.earlier-of_production.ensures c.target_side_clash-of_target.ensures
    (first-at (ap (λ es. map (λ e. e.now) es) c.as_slice.ensures.value ∙ c.in_ok-all.ensures) c.least_leaf_side_clash-of_leaves.ensures))
