use Rattle.read_texts.proofs.OrderLemmas.{each_is_earlier, no_more_than_bytes, ids_known}
use Rattle.read_texts.proofs.laws.tokens_of_a_text.Goals as goal

pub returns : goal.returns
returns c = record { earlier = each_is_earlier; few = no_more_than_bytes; known = ids_known }
