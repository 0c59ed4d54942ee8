use Rattle.job_text.proofs.CuttingLemmas.{one_cutting}
use Rattle.job_text.proofs.laws.one_cutting.Goals as goal

pub returns : goal.returns
returns c = one_cutting
