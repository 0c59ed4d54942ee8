use Rattle.std.proofs.Common.{◌≡◌, ◌+◌, ◌≤◌, map, sum_by}
use Rattle.std.specs.Prelude.{min}
use Rattle.flat_grammar.specs.Fitting.{cells}
use Rattle.flat_grammar.specs.Expressions.{weight}
use Rattle.flat_grammar.specs.declared.flat.FlatComp.{FlatComp}
use Rattle.tree_flattener.proofs.counts.rule_cells.Given as goal

-- what is counted, and what is left
abbrev pub invariant-loop-next : goal.invariant-loop-next
invariant-loop-next l = record {
  whole : min (l.total + sum_by cells (map (λ value. value.now) l.rest.items)) 16777217 ≡ min (sum_by (λ (c : FlatComp). cells c.value) l.rule.comps) 16777217;
  few : l.total ≤ 16777217;
}

abbrev pub decreases-loop-next : goal.decreases-loop-next
decreases-loop-next l = sum_by weight (map (λ value. value.now) l.rest.items)
