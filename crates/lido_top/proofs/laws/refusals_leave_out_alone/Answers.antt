use Rattle.lido_top.proofs.SettledLemmas.{refusal_keeps_out}
use Rattle.lido_top.proofs.laws.refusals_leave_out_alone.Goals as goal

pub returns : goal.returns
returns c = refusal_keeps_out
