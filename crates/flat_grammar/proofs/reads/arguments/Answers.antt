use Rattle.std.proofs.Common.{◌∙◌, ap, sym, suc, sum_by}
use Rattle.flat_grammar.specs.Rules.{reads}
use Rattle.flat_grammar.proofs.ExpressionsLemmas.{reads-Apply, reads-If, reads-Order}
use Rattle.flat_grammar.specs.Expressions.{weight, own_reads}
use Rattle.flat_grammar.proofs.ArgumentsLemmas.{argument-reads, weight-Apply, weight-If, weight-Order}
use Rattle.flat_grammar.proofs.reads.arguments.Goals as goal

pub returns-in-Apply-clause-reads : goal.returns-in-Apply-clause-reads
returns-in-Apply-clause-reads c = let e = c.in-Apply in argument-reads c.args.value.now e.args c.as_slice.result.now (ap reads e.is ∙ reads-Apply e.comp e.op e.args) (ap own_reads e.is) c.as_slice.ensures

pub returns-in-Apply-clause-lighter : goal.returns-in-Apply-clause-lighter
returns-in-Apply-clause-lighter c = let e = c.in-Apply in ap weight e.is ∙ (weight-Apply e.comp e.op e.args ∙ ap (λ l. suc (sum_by weight l)) (sym c.as_slice.ensures))

pub returns-in-If-clause-reads : goal.returns-in-If-clause-reads
returns-in-If-clause-reads c = let e = c.in-If in argument-reads c.args.value.now e.args c.as_slice-in-If.result.now (ap reads e.is ∙ reads-If e.args) (ap own_reads e.is) c.as_slice-in-If.ensures

pub returns-in-If-clause-lighter : goal.returns-in-If-clause-lighter
returns-in-If-clause-lighter c = let e = c.in-If in ap weight e.is ∙ (weight-If e.args ∙ ap (λ l. suc (sum_by weight l)) (sym c.as_slice-in-If.ensures))

pub returns-in-Order-clause-reads : goal.returns-in-Order-clause-reads
returns-in-Order-clause-reads c = let e = c.in-Order in argument-reads c.args.value.now e.args c.as_slice-in-Order.result.now (ap reads e.is ∙ reads-Order e.args) (ap own_reads e.is) c.as_slice-in-Order.ensures

pub returns-in-Order-clause-lighter : goal.returns-in-Order-clause-lighter
returns-in-Order-clause-lighter c = let e = c.in-Order in ap weight e.is ∙ (weight-Order e.args ∙ ap (λ l. suc (sum_by weight l)) (sym c.as_slice-in-Order.ensures))
