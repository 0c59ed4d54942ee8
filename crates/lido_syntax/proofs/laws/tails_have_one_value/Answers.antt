use Rattle.lido_syntax.proofs.ChainsLemmas.{same_entry, same_tail}
use Rattle.lido_syntax.proofs.DecidedLemmas.{a_tail}
use Rattle.lido_syntax.proofs.laws.tails_have_one_value.Goals as goal

pub returns : goal.returns
returns c = record { some = a_tail; one = same_tail; entry = same_entry }
