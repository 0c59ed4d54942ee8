use Rattle.std.proofs.Common.{◌≡◌, ◌+◌, map, sum_by}
use Rattle.flat_grammar.specs.Expressions.{weight}
use Rattle.region_engine.proofs.sizes.weight_of.Given as goal

-- what is counted, and what is left
abbrev pub invariant-loop-next : goal.invariant-loop-next
invariant-loop-next l = l.total + sum_by weight (map (λ value. value.now) l.rest.items) ≡ weight l.value

abbrev pub decreases-loop-next : goal.decreases-loop-next
decreases-loop-next l = sum_by weight (map (λ value. value.now) l.rest.items)
