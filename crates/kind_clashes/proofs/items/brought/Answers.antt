use Rattle.kind_clashes.proofs.LeastLemmas.{first-at, first-join}
use Rattle.kind_clashes.proofs.items.brought.Goals as goal

pub returns : goal.returns
returns c = first-join c.earlier-2.ensures (first-at c.as_slice-3.ensures c.least_declared.ensures)
    (first-join c.earlier.ensures (first-at c.as_slice.ensures c.in_ok-of_body.ensures) (first-at c.as_slice-2.ensures c.least_in-of_classes.ensures))
