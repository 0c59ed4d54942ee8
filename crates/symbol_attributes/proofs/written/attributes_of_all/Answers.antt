use Rattle.std.proofs.Common.{ℕ, List, get_or, sym, subst}
use Rattle.std.proofs.lemmas.Option.{slice_get-get_or}
use Rattle.flat_grammar.specs.declared.flat.FlatAttr.{FlatAttr}
use Rattle.symbol_attributes.specs.Written.{AreAttributesOf, AreOwners}
use Rattle.symbol_attributes.proofs.OrderLemmas.{lists-more}
use Rattle.symbol_attributes.proofs.written.attributes_of_all.Goals as goal

pub loop-symbol-preserved : goal.loop-symbol-preserved
loop-symbol-preserved c = λ spec facts known is numbered.
    let items = c.as_slice-symbol-items.result.now in
    let x = get_or items c.loop-symbol.symbol-index 0 in
    let owners : AreOwners spec x c.deref.result.now = subst (λ (xs : List ℕ). AreOwners spec x xs) (sym c.deref.ensures.value) (c.in_ok-owners.ensures spec known is) in
    lists-more (AreAttributesOf spec) items c.loop-symbol.symbol-index x c.loop-symbol.lists.items c.push.new.self.items c.from_vec.result
    (slice_get-get_or _ _ 0 c.loop-symbol-test.true) c.in_ok-push.ensures.items (c.loop-symbol.invariant spec facts known is numbered)
    (subst (λ (attrs : List FlatAttr). AreAttributesOf spec x attrs) (sym c.from_vec.ensures) (c.in_ok-attrs.ensures spec x facts owners numbered))
