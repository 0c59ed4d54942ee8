use Rattle.std.proofs.Common.{List, ap, ◌∙◌}
use Rattle.flat_grammar.specs.declared.plan.CycleStep.{CycleStep}
use Rattle.order_report.specs.CycleLines.{line_of_cycle}
use Rattle.order_report.proofs.PutsLemmas.{extended, extends_same, extends_then}
use Rattle.order_report.proofs.CyclesLemmas.{cycle_whole}
use Rattle.order_report.proofs.cycles.put_cycle.Goals as goal

pub returns : goal.returns
returns g c =
    extended _ _ _ _ _ _ (extends_same _ _ _ _ _ _ _ _
    (cycle_whole c.args.strings.now c.args.names.now c.args.cycle.now.rule.0 c.as_slice-steps.result.now c.rule_name-of_rule.result.now c.occs_of-occs.result.now c.rule_name-of_rule.ensures c.occs_of-occs.ensures
    ∙ ap (λ (l : List CycleStep). line_of_cycle c.args.strings.now c.args.names.now c.args.cycle.now.rule.0 l) c.as_slice-steps.ensures)
    (extends_then _ _ c.add_pieces-head.ensures (extends_then _ _ c.add_steps-walk.ensures (extends_then _ _ c.add_closing-closed.ensures c.add.ensures))))
