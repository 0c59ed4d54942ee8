use Rattle.lido_top.proofs.SettledLemmas.{status_settled}
use Rattle.lido_top.proofs.laws.told_bytes_settle_the_status.Goals as goal

pub returns : goal.returns
returns c = status_settled
