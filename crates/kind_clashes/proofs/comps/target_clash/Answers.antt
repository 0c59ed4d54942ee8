use Rattle.kind_clashes.proofs.LeastLemmas.{first-join}
use Rattle.kind_clashes.proofs.comps.target_clash.Goals as goal

pub returns-in-Attr : goal.returns-in-Attr
returns-in-Attr c = rw c.in-Attr.is (first-join c.earlier.ensures c.use_clash.ensures c.this_clash.ensures)
