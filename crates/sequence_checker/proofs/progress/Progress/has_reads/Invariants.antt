use Rattle.std.proofs.Common.{◌≡◌, map, flat_map, sum_by}
use Rattle.std.specs.List.{list_all}
use Rattle.flat_grammar.specs.Rules.{reads}
use Rattle.flat_grammar.specs.Expressions.{weight}
use Rattle.sequence_checker.specs.Steps.{is_at_hand}
use Rattle.sequence_checker.proofs.progress.Progress.has_reads.Given as goal

abbrev pub invariant-loop-next : goal.invariant-loop-next
invariant-loop-next l = list_all (is_at_hand l.self) (reads l.value) ≡ list_all (is_at_hand l.self) (flat_map reads (map (λ value. value.now) l.rest.items))

abbrev pub decreases-loop-next : goal.decreases-loop-next
decreases-loop-next l = sum_by weight (map (λ value. value.now) l.rest.items)
