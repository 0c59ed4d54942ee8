use Rattle.std.proofs.Common.{◌≡◌, take}
use Rattle.need_graphs.specs.Contexts.{all_contexts}
use Rattle.need_graphs.proofs.contexts.contexts.Given as goal

-- the plain rules so far
abbrev pub invariant-loop-k : goal.invariant-loop-k
invariant-loop-k l = l.found.items ≡ all_contexts l.numbers (take l.k l.plain) l.comps
