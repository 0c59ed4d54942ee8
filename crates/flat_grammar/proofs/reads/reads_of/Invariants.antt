use Rattle.std.proofs.Common.{map, flat_map, sum_by, ◌++◌}
use Rattle.flat_grammar.specs.Rules.{reads}
use Rattle.flat_grammar.specs.Expressions.{weight}
use Rattle.flat_grammar.proofs.ArgumentsLemmas.{HaveSame}
use Rattle.flat_grammar.proofs.reads.reads_of.Given as goal

abbrev pub invariant-loop-next : goal.invariant-loop-next
invariant-loop-next l = HaveSame (l.list.items ++ flat_map reads (map (λ value. value.now) l.rest.items)) (reads l.value)

abbrev pub decreases-loop-next : goal.decreases-loop-next
decreases-loop-next l = sum_by weight (map (λ value. value.now) l.rest.items)
