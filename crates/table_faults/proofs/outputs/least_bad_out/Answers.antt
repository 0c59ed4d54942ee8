use Rattle.kind_clashes.proofs.LeastLemmas.{first-at}
use Rattle.table_faults.proofs.OutputsLemmas.{bad-out}
use Rattle.table_faults.proofs.outputs.least_bad_out.Goals as goal

pub returns : goal.returns
returns c = λ env. bad-out c.args.spec.now env c.args.sets.now c.requires c.out_in_symbols.result c.bad_out_in_rules.result c.earlier.result c.earlier.ensures
    (first-at c.as_slice.ensures c.out_in_symbols.ensures) (first-at c.as_slice-2.ensures c.bad_out_in_rules.ensures)
