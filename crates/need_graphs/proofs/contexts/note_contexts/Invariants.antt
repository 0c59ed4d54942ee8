use Rattle.std.proofs.Common.{◌≡◌, ◌++◌, take}
use Rattle.std.specs.Prelude.{filter_map}
use Rattle.need_graphs.specs.Contexts.{context_by}
use Rattle.need_graphs.proofs.contexts.note_contexts.Given as goal

-- the computations so far
abbrev pub invariant-loop-force : goal.invariant-loop-force
invariant-loop-force l = l.found.items ≡ l.initial.found.items ++ filter_map (context_by l.numbers l.rule) (take l.force-index l.forces)
