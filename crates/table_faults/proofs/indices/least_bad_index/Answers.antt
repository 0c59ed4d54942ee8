use Rattle.kind_clashes.proofs.LeastLemmas.{first-at}
use Rattle.table_faults.proofs.IndicesLemmas.{bad-index-of}
use Rattle.table_faults.proofs.indices.least_bad_index.Goals as goal

pub returns : goal.returns
returns c = λ env texts. bad-index-of c.args.spec.now env c.args.strings.now texts c.in_ok-least.least (first-at c.as_slice.ensures c.in_ok-least.ensures)
