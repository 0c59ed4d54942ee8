use Rattle.std.proofs.Common.{arith}
use Rattle.trials_of_boundaries.proofs.RowsLemmas.{contents_length, owners_length}
use Rattle.trials_of_boundaries.proofs.rows.RowsContents.keys.Goals as goal

pub returns-clause-count : goal.returns-clause-count
returns-clause-count c = let size = contents_length c.args.self.now.count in omega arith

pub returns-clause-owned : goal.returns-clause-owned
returns-clause-owned c = let size = owners_length c.args.self.now.count in omega arith
