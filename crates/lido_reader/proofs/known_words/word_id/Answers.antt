use Rattle.lido_reader.proofs.TextsLemmas.{id_later}
use Rattle.lido_reader.proofs.known_words.word_id.Goals as goal

pub returns-clause-id : goal.returns-clause-id
returns-clause-id c = λ texts later. id_later c.intern.new.self texts c.args.word.now c.in_ok-id.id later c.in_ok-id.ensures.id
