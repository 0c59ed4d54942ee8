use Rattle.lido_computations.specs.Functions.{known_words}
use Rattle.lido_reader.proofs.AddedLemmas.{has_added}
use Rattle.lido_reader.proofs.known_words.intern_known_words.Goals as goal

pub returns-clause-there : goal.returns-clause-there
returns-clause-there c = has_added known_words c.args.strings.now c.intern_all.new.strings c.intern_all.result c.intern_all.ensures.table
