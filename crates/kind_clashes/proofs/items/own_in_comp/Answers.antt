use Rattle.std.specs.Prelude.{map}
use Rattle.std.proofs.Common.{◌∙◌, ap}
use Rattle.kind_clashes.proofs.LeastLemmas.{first-at, first-join}
use Rattle.kind_clashes.proofs.items.own_in_comp.Goals as goal

pub returns : goal.returns
returns c = first-join c.earlier.ensures c.own_target.ensures (first-at (ap (λ es. map (λ e. e.now) es) c.as_slice.ensures.value ∙ c.in_ok-all.ensures) c.least_own_leaf.ensures)
