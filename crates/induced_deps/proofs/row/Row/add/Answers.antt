use Rattle.std.proofs.Common.{arith}
use Rattle.induced_deps.proofs.RowLemmas.{added, added_less}
use Rattle.induced_deps.proofs.row.Row.add.Goals as goal

pub returns-clause-members : goal.returns-clause-members
returns-clause-members c = added c.args.self.now.words c.args.k c.with.result (omega arith) c.with.ensures

pub returns-clause-less : goal.returns-clause-less
returns-clause-less c = added_less c.args.self.now.words c.args.k c.with.result (omega arith) c.with.type_inv c.with.ensures
