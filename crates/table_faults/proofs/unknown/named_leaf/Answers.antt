use Rattle.table_faults.proofs.unknown.named_leaf.Goals as goal

pub returns-in-Read : goal.returns-in-Read
returns-in-Read c = rw c.in-Read.is c.named_place.ensures
