use Rattle.computation_aims.specs.Keys.{key}
use Rattle.symbol_inherit.specs.Index.{noted}
use Rattle.symbol_inherit.proofs.index.Index.note.Goals as goal

pub returns : goal.returns
unfolding noted
returns c = λ place aim. let e = c.in_ok-insert.ensures.updates.0 (key place aim) in rw c.number.ensures at e
