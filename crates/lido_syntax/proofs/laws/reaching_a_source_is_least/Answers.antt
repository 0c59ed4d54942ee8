use Rattle.std.specs.Prelude.{IsTrue}
use Rattle.lido_base.specs.Reach.{source}
use Rattle.lido_syntax.proofs.SetsLemmas.{ReachesSource-child, ReachesSource-least}
use Rattle.lido_syntax.proofs.laws.reaching_a_source_is_least.Goals as goal

pub returns : goal.returns
returns c = record { source = λ spec inherits k s h. source h; child = ReachesSource-child; least = λ spec inherits k test. ReachesSource-least spec inherits k (λ s. IsTrue (test s)) }
