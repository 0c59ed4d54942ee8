use Rattle.std.proofs.Common.{◌≡◌}
use Rattle.std.specs.Prelude.{replicate}
use Rattle.large_grammars.proofs.grammars.children.Given as goal

-- the symbols so far
abbrev pub invariant-loop : goal.invariant-loop
invariant-loop l = l.right ≡ replicate l.counter l.child
