use Rattle.flat_grammar.specs.declared.plan.PlanItem.TheVariants.{Visit, Leave}
use Rattle.sequence_checker.proofs.ItemLemmas.{judges-same}
use Rattle.sequence_checker.proofs.progress.Progress.item_fault.Goals as goal

pub returns-in-Visit : goal.returns-in-Visit
returns-in-Visit c = judges-same c.args.symbols.now c.args.visits.now c.args.rule.now c.args.self.now c.args.item (Visit c.in-Visit.occ c.in-Visit.visit) c.visit_fault.result c.in-Visit.is (c.visit_fault.ensures c.args.symbols.now)

pub returns-in-Leave : goal.returns-in-Leave
returns-in-Leave c = judges-same c.args.symbols.now c.args.visits.now c.args.rule.now c.args.self.now c.args.item (Leave c.in-Leave.visit) c.leave_fault.result c.in-Leave.is (c.leave_fault.ensures c.args.symbols.now)
