use Rattle.order_report.proofs.lines.status_line.Goals as goal

pub returns-in-ReadFault : goal.returns-in-ReadFault
returns-in-ReadFault g c = rw c.in-ReadFault.is c.words.ensures

pub returns-in-InputTooLong : goal.returns-in-InputTooLong
returns-in-InputTooLong g c = rw c.in-InputTooLong.is c.words-in-InputTooLong.ensures

pub returns-in-Memory : goal.returns-in-Memory
returns-in-Memory g c = rw c.in-Memory.is c.words-in-Memory.ensures

pub returns-in-FirstPathOnly : goal.returns-in-FirstPathOnly
returns-in-FirstPathOnly g c = rw c.in-FirstPathOnly.is c.words-in-FirstPathOnly.ensures
