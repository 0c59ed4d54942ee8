use Rattle.std.proofs.Common.{◌≡◌, ◌++◌, take}
use Rattle.need_graphs.specs.Users.{readers_of}
use Rattle.need_graphs.proofs.readers.note_body.Given as goal

-- the computations so far
abbrev pub invariant-loop-comp : goal.invariant-loop-comp
invariant-loop-comp l = l.found.items ≡ l.initial.found.items ++ readers_of l.chain.0 l.starts (take l.comp-index l.body)
