use Rattle.induced_deps.proofs.GrowthLemmas.{settled_rows}
use Rattle.induced_deps.proofs.growth.grow.Goals as goal

pub returns : goal.returns
returns c = settled_rows c.args.flat.now.symbols c.args.flat.now.rules c.args.flat.now.well_formed.each_rule c.round.new.ids c.round.new.graphs c.round.ensures.graphs c.round.ensures.rows c.round.ensures.sound (c.round.ensures.settled c.loop-back-test.false)
