use Rattle.std.proofs.Common.{◌++◌, subst}
use Rattle.std.proofs.lemmas.List.Elements.{Contains-append_right}
use Rattle.std.proofs.lemmas.Result.{on_ok_weaker, on_err_weaker}
use Rattle.flat_grammar.specs.Rules.{reads}
use Rattle.region_engine.specs.Inputs.{AllAtHand, OneMissed}
use Rattle.region_engine.proofs.Chains.{all-both, missed-among}
use Rattle.region_engine.proofs.Looks.{all-later, missed-behind}
use Rattle.region_engine.proofs.inputs.look_all.Goals as goal

pub returns-clause-at_hand : goal.returns-clause-at_hand
returns-clause-at_hand c =
    let j = c.args.job.now in let n = c.args.node in let marks = c.args.marks.now in let comp = c.args.comp.now in
    on_ok_weaker c.look_each.result (λ hand. all-both j n marks c.look_each.new.shared c.look_each.new.desk (reads comp.value) comp.after
    (all-later j n marks c.look_reads.new.shared c.look_each.new.shared c.look_reads.new.desk c.look_each.new.desk (reads comp.value) c.look_each.ensures.look c.in_ok-look_reads.ensures.at_hand)
    (subst (λ l. AllAtHand j n marks c.look_each.new.shared c.look_each.new.desk l) c.as_slice.ensures hand)) c.look_each.ensures.at_hand

pub returns-clause-missed : goal.returns-clause-missed
returns-clause-missed c =
    let j = c.args.job.now in let n = c.args.node in let marks = c.args.marks.now in let comp = c.args.comp.now in
    on_err_weaker c.look_each.result (λ missed. missed-among j n marks c.args.desk.now c.look_each.new.desk comp.after (reads comp.value ++ comp.after) (λ o m. Contains-append_right (reads comp.value) comp.after o m)
    (missed-behind j n marks c.args.desk.now c.look_reads.new.desk c.look_each.new.desk comp.after c.look_reads.ensures.look.goes_on
    (subst (λ l. OneMissed j n marks c.look_reads.new.desk c.look_each.new.desk l) c.as_slice.ensures missed))) c.look_each.ensures.missed
