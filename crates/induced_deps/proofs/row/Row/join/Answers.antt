use Rattle.std.proofs.Common.{arith, inl}
use Rattle.induced_deps.proofs.RowLemmas.{joined_whole, room_part}
use Rattle.induced_deps.proofs.row.Row.join.Goals as goal

pub returns-clause-members : goal.returns-clause-members
returns-clause-members c = joined_whole c.args.self.now.words c.loop-k.self.words c.args.other.now.words c.loop-k.k (omega arith) c.loop-k.invariant.joined

pub returns-clause-lighter : goal.returns-clause-lighter
returns-clause-lighter c = room_part c.args.self.now.words c.loop-k.self.words (let size = c.loop-k.invariant.size in omega arith) (λ i b h. (c.loop-k.invariant.joined i b).1 (inl h))
