use Rattle.table_faults.proofs.unknown.foreign_leaf.Goals as goal

pub returns-in-Terminal : goal.returns-in-Terminal
returns-in-Terminal c = rw c.in-Terminal.is c.foreign_bare.ensures

pub returns-in-Read : goal.returns-in-Read
returns-in-Read c = rw c.in-Read.is c.foreign_place.ensures
