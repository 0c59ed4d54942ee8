use Rattle.std.proofs.Common.{refl}
use Rattle.sequence_checker.proofs.StepLemmas.{goes-eval, goes-visit, goes-leave, on_ok3}
use Rattle.sequence_checker.proofs.progress.Progress.take.Goals as goal

pub returns-in_ok-add-in-Eval : goal.returns-in_ok-add-in-Eval
returns-in_ok-add-in-Eval c =
    let p = c.args.self.now in
    goes-eval c.args.visits.now c.args.rule.now c.args.item p (record { evaluated = c.add.new.self; given = p.given; made = p.made }) c.in-Eval.goal c.in-Eval.is
    c.in_ok-add-in-Eval.ensures refl refl

pub returns-in-Visit : goal.returns-in-Visit
returns-in-Visit c = on_ok3 c.visit.result c.visit.ensures.evaluated c.visit.ensures.given c.visit.ensures.made
    (goes-visit c.args.visits.now c.args.rule.now c.args.item c.args.self.now c.visit.new.self c.in-Visit.occ c.in-Visit.visit c.visit.ensures.small c.in-Visit.is)

pub returns-in-Leave : goal.returns-in-Leave
returns-in-Leave c = on_ok3 c.leave.result c.leave.ensures.evaluated c.leave.ensures.given c.leave.ensures.made
    (goes-leave c.args.visits.now c.args.rule.now c.args.item c.args.self.now c.leave.new.self c.in-Leave.visit c.leave.ensures.small c.in-Leave.is)
