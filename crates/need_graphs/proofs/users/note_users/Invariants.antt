use Rattle.std.proofs.Common.{◌≡◌, ◌++◌, take}
use Rattle.std.specs.Prelude.{filter_map}
use Rattle.need_graphs.specs.Users.{user_by}
use Rattle.need_graphs.proofs.users.note_users.Given as goal

-- the computations so far
abbrev pub invariant-loop-force : goal.invariant-loop-force
invariant-loop-force l = l.found.items ≡ l.initial.found.items ++ filter_map (user_by l.chains l.chain.0 l.readers l.starts l.rule) (take l.force-index l.forces)
