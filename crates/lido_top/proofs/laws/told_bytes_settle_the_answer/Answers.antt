use Rattle.lido_top.proofs.SettledLemmas.{settles}
use Rattle.lido_top.proofs.laws.told_bytes_settle_the_answer.Goals as goal

pub returns : goal.returns
returns c = settles
