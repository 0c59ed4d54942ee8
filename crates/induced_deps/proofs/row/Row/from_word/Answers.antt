use Rattle.induced_deps.proofs.WordLemmas.{from_two}
use Rattle.induced_deps.proofs.row.Row.from_word.Goals as goal

pub returns : goal.returns
returns c = from_two c.new-row.result.words c.put.new.self.words c.put-2.new.self.words c.args.word c.args.by c.moved_up.result c.moved_down.result c.ranges.word.fits c.new-row.ensures c.put.ensures c.put-2.ensures c.moved_up.ensures c.moved_down.ensures
