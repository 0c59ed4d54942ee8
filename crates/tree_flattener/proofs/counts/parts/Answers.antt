use Rattle.std.proofs.Common.{◌∙◌, ap, sym, suc, sum_by, length}
use Rattle.flat_grammar.specs.Fitting.{cells, own_cells}
use Rattle.flat_grammar.proofs.ExpressionsLemmas.{cells-Apply, cells-If, cells-Order}
use Rattle.flat_grammar.specs.Expressions.{weight}
use Rattle.flat_grammar.proofs.ArgumentsLemmas.{weight-Apply, weight-If, weight-Order}
use Rattle.tree_flattener.proofs.CountLemmas.{none_own, some_own}
use Rattle.tree_flattener.proofs.counts.parts.Goals as goal

pub returns-in-Apply-clause-cells : goal.returns-in-Apply-clause-cells
returns-in-Apply-clause-cells c = let e = c.in-Apply in some_own c.args.value.now e.op e.args c.as_slice-args.result.now c.op_cells.result (ap cells e.is ∙ cells-Apply e.comp e.op e.args) c.as_slice-args.ensures (c.op_cells.ensures ∙ ap (own_cells e.op) (ap length c.as_slice-args.ensures))

pub returns-in-Apply-clause-lighter : goal.returns-in-Apply-clause-lighter
returns-in-Apply-clause-lighter c = let e = c.in-Apply in ap weight e.is ∙ (weight-Apply e.comp e.op e.args ∙ ap (λ l. suc (sum_by weight l)) (sym c.as_slice-args.ensures))

pub returns-in-If-clause-cells : goal.returns-in-If-clause-cells
returns-in-If-clause-cells c = let e = c.in-If in none_own c.args.value.now e.args c.as_slice.result.now (ap cells e.is ∙ cells-If e.args) c.as_slice.ensures

pub returns-in-If-clause-lighter : goal.returns-in-If-clause-lighter
returns-in-If-clause-lighter c = let e = c.in-If in ap weight e.is ∙ (weight-If e.args ∙ ap (λ l. suc (sum_by weight l)) (sym c.as_slice.ensures))

pub returns-in-Order-clause-cells : goal.returns-in-Order-clause-cells
returns-in-Order-clause-cells c = let e = c.in-Order in none_own c.args.value.now e.args c.as_slice-in-Order.result.now (ap cells e.is ∙ cells-Order e.args) c.as_slice-in-Order.ensures

pub returns-in-Order-clause-lighter : goal.returns-in-Order-clause-lighter
returns-in-Order-clause-lighter c = let e = c.in-Order in ap weight e.is ∙ (weight-Order e.args ∙ ap (λ l. suc (sum_by weight l)) (sym c.as_slice-in-Order.ensures))
