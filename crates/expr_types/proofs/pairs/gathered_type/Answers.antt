use Rattle.std.proofs.Common.{subst, sym}
use Rattle.expr_types.specs.Scopes.{spec_of, ArePairs}
use Rattle.expr_types.proofs.pairs.gathered_type.Goals as goal

pub pairs_type-requires-clause-pairs : goal.pairs_type-requires-clause-pairs
pairs_type-requires-clause-pairs c = subst (ArePairs (spec_of c.args.scope.now)) (sym c.as_slice.ensures) c.requires.pairs
