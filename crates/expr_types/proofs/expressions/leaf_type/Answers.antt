use Rattle.std.proofs.Common.{subst, sym}
use Rattle.lido_syntax.specs.declared.spec.Cons.{Cons}
use Rattle.expr_types.specs.Scopes.{spec_of, IsThereIn, HasTypeIn, ArePairs}
use Rattle.expr_types.proofs.expressions.leaf_type.Goals as goal

pub read_type-requires-clause-there : goal.read_type-requires-clause-there
read_type-requires-clause-there c = subst (IsThereIn c.args.scope.now) c.in-Read.is c.requires.there

pub pairs_type-requires-clause-pairs : goal.pairs_type-requires-clause-pairs
pairs_type-requires-clause-pairs c =
    let there = subst (IsThereIn c.args.scope.now) c.in-Including.is c.requires.there in
    subst (ArePairs (spec_of c.args.scope.now)) (sym c.as_slice.ensures) there

pub gathered_type-requires-clause-pairs : goal.gathered_type-requires-clause-pairs
gathered_type-requires-clause-pairs c =
    let there = subst (IsThereIn c.args.scope.now) c.in-Constituents.is c.requires.there in
    subst (λ (k : Cons). ArePairs (spec_of c.args.scope.now) k.pairs) (sym c.get.ensures) there

pub returns-in-Terminal-clause-ok : goal.returns-in-Terminal-clause-ok
returns-in-Terminal-clause-ok c = subst (λ e. HasTypeIn c.args.scope.now e c.bare_type.result) (sym c.in-Terminal.is) c.bare_type.ensures

pub returns-in-Read-clause-ok : goal.returns-in-Read-clause-ok
returns-in-Read-clause-ok c = subst (λ e. HasTypeIn c.args.scope.now e c.read_type.result) (sym c.in-Read.is) c.read_type.ensures
