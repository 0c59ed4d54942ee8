use Rattle.kind_clashes.proofs.sides.leaf_side_clash.Goals as goal

pub returns-in-Terminal : goal.returns-in-Terminal
returns-in-Terminal c = rw c.in-Terminal.is c.bare_clash.ensures

pub returns-in-Read : goal.returns-in-Read
returns-in-Read c = rw c.in-Read.is c.side_clash.ensures
