use Rattle.lido_syntax.proofs.MessageLemmas.{message_listed, listed_in_force}
use Rattle.lido_syntax.proofs.laws.messages_in_force_are_those_of_the_tree.Goals as goal

pub returns : goal.returns
returns c = λ spec t n c. (listed_in_force spec t n c, (λ h. message_listed spec t n h.0 c h.1))
