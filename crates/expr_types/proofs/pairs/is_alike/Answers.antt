use Rattle.std.specs.Prelude.{◌≡◌, Bool, true, false, not, MatchOption, refl}
use Rattle.std.proofs.Common.{subst, sym, ◌∙◌}
use Rattle.lido_base.specs.declared.value.ValueType.{ValueType}
use Rattle.lido_syntax.specs.Attributes.{Has, HasType}
use Rattle.expr_types.specs.Scopes.{spec_of}
use Rattle.expr_types.proofs.ScopeLemmas.{other-type, tells, this-type, even-pair, uneven-pair}
use Rattle.expr_types.proofs.pairs.is_alike.Goals as goal

not-true : (b : Bool) → not b ≡ true → b ≡ false
not-true true e = cc
not-true false e = refl

not-false : (b : Bool) → not b ≡ false → b ≡ true
not-false true e = refl
not-false false e = cc

pub returns-else-eq-clause-no : goal.returns-else-eq-clause-no
returns-else-eq-clause-no c = λ is_not sets h.
    let spec = spec_of c.args.scope.now in
    let s = c.args.pair.now.sym.id.0 in
    let a = c.args.pair.now.attr.id.0 in
    other-type spec c.requires.scope.single s a c.attribute.result c.args.ty c.requires.pair
    (subst (λ o. MatchOption o (Has spec s a → ⊥) (λ (t : ValueType). HasType spec s a t)) (sym c.attribute.ensures) (c.requires.scope.types.attribute s a))
    (sym c.eq.ensures ∙ c.if-eq.false) h.0

pub returns-then-eq-clause-yes : goal.returns-then-eq-clause-yes
returns-then-eq-clause-yes c = λ yes sets.
    let spec = spec_of c.args.scope.now in
    let s = c.args.pair.now.sym.id.0 in
    let a = c.args.pair.now.attr.id.0 in
    even-pair spec c.args.scope.now.types.now c.requires.scope.types sets c.args.pair.now c.requires.pair c.args.ty
    (tells (Has spec s a → ⊥) (λ (t : ValueType). HasType spec s a t) c.attribute.result c.args.ty (this-type c.attribute.result c.args.ty (sym c.eq.ensures ∙ c.if-eq.true))
    (subst (λ o. MatchOption o (Has spec s a → ⊥) (λ (t : ValueType). HasType spec s a t)) (sym c.attribute.ensures) (c.requires.scope.types.attribute s a)))
    (sym c.is_uneven.ensures ∙ not-true c.is_uneven.result yes)

pub returns-then-eq-clause-no : goal.returns-then-eq-clause-no
returns-then-eq-clause-no c = λ is_not sets h.
    uneven-pair (spec_of c.args.scope.now) c.args.scope.now.types.now c.requires.scope.types sets c.args.pair.now c.requires.pair c.args.ty (sym c.is_uneven.ensures ∙ not-false c.is_uneven.result is_not) h
