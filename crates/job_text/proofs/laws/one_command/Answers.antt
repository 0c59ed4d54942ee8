use Rattle.job_text.proofs.FaultLemmas.{one_command}
use Rattle.job_text.proofs.laws.one_command.Goals as goal

pub returns : goal.returns
returns c = one_command
