use Rattle.order_report.proofs.lines.spec_line.Goals as goal

pub returns-in-UnknownSymbol : goal.returns-in-UnknownSymbol
returns-in-UnknownSymbol g c = rw c.in-UnknownSymbol.is c.placed-in-UnknownSymbol.ensures

pub returns-in-NoIncluding : goal.returns-in-NoIncluding
returns-in-NoIncluding g c = rw (c.in-NoIncluding.is, ← c.as_slice-in-NoIncluding.ensures) c.write_line-in-NoIncluding.ensures

pub returns-in-Memory : goal.returns-in-Memory
returns-in-Memory g c = rw c.in-Memory.is c.words-in-Memory.ensures
