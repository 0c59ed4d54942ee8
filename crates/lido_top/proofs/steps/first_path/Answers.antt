use Rattle.std.proofs.Common.{inr}
use Rattle.lido_top.proofs.StepsLemmas.{text_some, text_none}
use Rattle.lido_top.proofs.steps.first_path.Goals as goal

pub returns-in-Ok-clause-gives : goal.returns-in-Ok-clause-gives
returns-in-Ok-clause-gives c = λ texts. text_some c.args.bytes.now _ c.in-Ok.ensures

pub returns-in-Err-Outside-clause-gives : goal.returns-in-Err-Outside-clause-gives
returns-in-Err-Outside-clause-gives c = λ texts. inr (text_none c.args.bytes.now c.in-Err-Outside.field-0 c.in-Err-Outside.field-0-is c.in-Err-Outside.ensures)
