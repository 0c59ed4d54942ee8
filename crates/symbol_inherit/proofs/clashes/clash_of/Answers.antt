use Rattle.std.proofs.Common.{refl}
use Rattle.symbol_inherit.proofs.clashes.clash_of.Goals as goal

pub returns-in-Some : goal.returns-in-Some
returns-in-Some c = λ env t T s known at. let h = c.in-Some.ensures env t T s known at in (h.0, h.1, refl)

pub returns-in-None : goal.returns-in-None
returns-in-None c = λ env t T s known at. c.in-None.ensures env t T s known at
