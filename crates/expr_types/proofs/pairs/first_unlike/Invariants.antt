use Rattle.std.proofs.Common.{take}
use Rattle.expr_types.specs.Scopes.{spec_of}
use Rattle.expr_types.specs.Pairs.{AreAlike}
use Rattle.expr_types.proofs.pairs.first_unlike.Given as goal

abbrev pub invariant-loop-pair : goal.invariant-loop-pair
invariant-loop-pair l = AreAlike (spec_of l.scope) l.ty (take l.pair-index l.pairs)
