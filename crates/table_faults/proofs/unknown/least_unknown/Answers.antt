use Rattle.kind_clashes.proofs.LeastLemmas.{first-at}
use Rattle.table_faults.proofs.UnknownLemmas.{unknown-of}
use Rattle.table_faults.proofs.unknown.least_unknown.Goals as goal

pub returns : goal.returns
returns c = λ env texts. unknown-of c.args.spec.now env c.args.strings.now texts c.args.sets.now c.requires c.in_ok-names.names.items (c.in_ok-names.ensures env texts)
    c.least_unknown_name-of_names.result c.in_ok-of_rules.of_rules c.in_ok-of_symbols.of_symbols c.earlier.result c.earlier-of_comps.result c.earlier-of_comps.ensures c.earlier.ensures
    (first-at c.as_slice.ensures.value c.least_unknown_name-of_names.ensures) (first-at c.as_slice-2.ensures c.in_ok-of_rules.ensures) (first-at c.as_slice-3.ensures c.in_ok-of_symbols.ensures)
