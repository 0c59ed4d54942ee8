use Rattle.kind_clashes.proofs.LeastLemmas.{first-at, first-join}
use Rattle.kind_clashes.proofs.plain.name_clash.Goals as goal

pub returns : goal.returns
returns c = first-join c.earlier.ensures
    (first-join c.earlier-in_rules.ensures (first-at c.as_slice-rules.ensures c.class_in_productions.ensures) (first-at c.as_slice-rules.ensures c.terminal_in_lists.ensures))
    (first-join c.earlier-in_items.ensures (first-at c.as_slice.ensures c.inherits_no_class.ensures) (first-join c.earlier-declared.ensures c.in_ok-of_terms.ensures c.in_ok-chain_again.ensures))
