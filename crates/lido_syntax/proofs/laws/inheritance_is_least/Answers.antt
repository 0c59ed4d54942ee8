use Rattle.std.specs.Prelude.{IsTrue}
use Rattle.lido_base.specs.Reach.{source}
use Rattle.lido_syntax.proofs.SetsLemmas.{Inherits-transitive, Inherits-least}
use Rattle.lido_syntax.proofs.laws.inheritance_is_least.Goals as goal

pub returns : goal.returns
returns c = record { direct = λ spec s class h. source h; transitive = Inherits-transitive; least = λ spec test. Inherits-least spec (λ s class. IsTrue (test s class)) }
