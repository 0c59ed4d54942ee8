use Rattle.kind_clashes.proofs.LeastLemmas.{first-at, first-join}
use Rattle.kind_clashes.proofs.plain.plain_clash.Goals as goal

pub returns : goal.returns
returns c = first-join c.earlier-2.ensures c.in_ok-of_names.ensures (first-join c.earlier.ensures (first-at c.as_slice-items.ensures c.in_ok-of_terminals.ensures)
    (first-join c.earlier-in_comps.ensures (first-at c.as_slice.ensures c.in_ok-in_rules.ensures) (first-at c.as_slice-items.ensures c.in_ok-clash_in_symbols.ensures)))
