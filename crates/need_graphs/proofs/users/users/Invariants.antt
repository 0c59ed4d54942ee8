use Rattle.std.proofs.Common.{◌≡◌, take}
use Rattle.need_graphs.specs.Users.{all_users}
use Rattle.need_graphs.proofs.users.users.Given as goal

-- the plain rules so far
abbrev pub invariant-loop-k : goal.invariant-loop-k
invariant-loop-k l = l.found.items ≡ all_users l.chains l.chain.0 l.readers (take l.k l.plain) l.comps
