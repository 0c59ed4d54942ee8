use Rattle.std.proofs.Common.{◌≡◌, map, sum_by, take}
use Rattle.flat_grammar.specs.Fitting.{cells}
use Rattle.flat_grammar.specs.declared.flat.FlatComp.{FlatComp}
use Rattle.tree_flattener.proofs.counts.values.Given as goal

-- those of the first computations
abbrev pub invariant-loop-comp : goal.invariant-loop-comp
invariant-loop-comp l = sum_by cells (map (λ value. value.now) l.rest.items) ≡ sum_by (λ (c : FlatComp). cells c.value) (take l.comp-index l.rule.comps)
