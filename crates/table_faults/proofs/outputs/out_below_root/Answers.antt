use Rattle.std.proofs.Common.{◌∙◌, sym}
use Rattle.kind_clashes.proofs.LeastLemmas.{first-at, first-if}
use Rattle.table_faults.proofs.outputs.out_below_root.Goals as goal

pub returns : goal.returns
returns c = first-if (sym c.has.ensures ∙ c.if-not-has.false) (first-at c.as_slice.ensures c.least_out.ensures)
