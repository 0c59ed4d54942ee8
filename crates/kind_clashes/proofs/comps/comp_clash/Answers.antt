use Rattle.kind_clashes.proofs.LeastLemmas.{first-at, first-join}
use Rattle.kind_clashes.proofs.comps.comp_clash.Goals as goal

pub returns : goal.returns
returns c = first-join c.earlier.ensures c.target_clash.ensures
    (first-join c.earlier-of_leaves.ensures (first-at c.requires c.least_leaf_clash.ensures) (first-at c.requires c.barred_by_start.ensures))
