use Rattle.kind_clashes.proofs.items.own_leaf.Goals as goal

pub returns-in-Read : goal.returns-in-Read
returns-in-Read c = rw c.in-Read.is c.own_use.ensures
