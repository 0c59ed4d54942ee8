use Rattle.lido_top.proofs.SettledLemmas.{source_cause, out_cause, err_cause}
use Rattle.lido_top.proofs.laws.faults_have_their_cause.Goals as goal

pub returns-clause-source : goal.returns-clause-source
returns-clause-source c = source_cause

pub returns-clause-out : goal.returns-clause-out
returns-clause-out c = out_cause

pub returns-clause-err : goal.returns-clause-err
returns-clause-err c = err_cause
