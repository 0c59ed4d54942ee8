use Rattle.std.proofs.Common.{ap, inr}
use Rattle.job_text.specs.Cutting.{Cutting}
use Rattle.order_report.specs.declared.status.Status.TheVariants as status
use Rattle.lido_top.specs.Endings.{plainly}
use Rattle.lido_top.specs.Verdict.{of_cut, SectionsOf}
use Rattle.lido_top.proofs.Wrapping.{wrapped_ok, wrapped_err}
use Rattle.lido_top.proofs.parts.sections_of.Goals as goal

pub returns-in-Ok-clause-gives : goal.returns-in-Ok-clause-gives
unfolding SectionsOf
returns-in-Ok-clause-gives c = λ texts. wrapped_ok of_cut (Cutting c.args.bytes.now) c.in-Ok.sections c.in-Ok.ensures.sections

pub returns-in-Err-NoPtg-clause-gives : goal.returns-in-Err-NoPtg-clause-gives
unfolding SectionsOf
returns-in-Err-NoPtg-clause-gives c = λ texts.
    inr (wrapped_err of_cut (Cutting c.args.bytes.now) c.in-Err-NoPtg.field-0 (plainly status.NoPtg) (ap of_cut c.in-Err-NoPtg.field-0-is) c.in-Err-NoPtg.ensures.sections)

pub returns-in-Err-NoTree-clause-gives : goal.returns-in-Err-NoTree-clause-gives
unfolding SectionsOf
returns-in-Err-NoTree-clause-gives c = λ texts.
    inr (wrapped_err of_cut (Cutting c.args.bytes.now) c.in-Err-NoTree.field-0 (plainly status.NoTree) (ap of_cut c.in-Err-NoTree.field-0-is) c.in-Err-NoTree.ensures.sections)
