use Rattle.std.proofs.Common.{rules}
use Rattle.kind_clashes.proofs.LeastLemmas.{first-at, first-if}
use Rattle.kind_clashes.proofs.symbols.terminal_in_list.Goals as goal

pub returns : goal.returns
returns c = first-if (search rules) (first-at c.as_slice.ensures c.terminal_among.ensures)
