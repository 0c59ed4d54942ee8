use Rattle.std.proofs.Common.{◌≡◌, map, sum_by, take}
use Rattle.std.specs.Prelude.{min}
use Rattle.flat_grammar.specs.Fitting.{cells}
use Rattle.flat_grammar.specs.declared.flat.FlatComp.{FlatComp}
use Rattle.flat_grammar.specs.declared.flat.FlatRule.{FlatRule}
use Rattle.tree_flattener.proofs.counts.cells_by_rule.Given as goal

-- those of the first rules
abbrev pub invariant-loop-rule : goal.invariant-loop-rule
invariant-loop-rule l = l.numbers.items ≡ map (λ (r : FlatRule). min (sum_by (λ (c : FlatComp). cells c.value) r.comps) 16777217) (take l.rule-index l.flat.rules)
