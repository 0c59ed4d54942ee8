-- The sets of a specification's names.
use Rattle.std.specs.Prelude.{Contains, IsTrue, map, flat_map, filter_map}
use Rattle.std.proofs.Common.{◌≡◌, ℕ, List, [], ◌∷◌, Some, refl, ap, subst, ◌∙◌, inl, inr}
use Rattle.std.proofs.lemmas.Option.{same_Some, none-some}
use Rattle.lido_base.specs.declared.value.ValueType.{ValueType}
use Rattle.lido_base.proofs.Lists.{contains-nil, contains-cons, contains-here, contains-later, contains-map, map-contains, contains-flat, flat-contains}
use Rattle.lido_base.proofs.TreeLemmas.{contains-test, test-contains}
use Rattle.lido_syntax.specs.declared.spec.Spec.{Spec}
use Rattle.lido_syntax.specs.declared.spec.Element.{Element}
use Rattle.lido_syntax.specs.declared.spec.Element.TheVariants.{Symbol, Literal}
use Rattle.lido_syntax.specs.declared.spec.RuleItem.{RuleItem}
use Rattle.lido_syntax.specs.declared.spec.SymbolItem.{SymbolItem}
use Rattle.lido_syntax.specs.declared.spec.Typed1.{Typed1}
use Rattle.lido_syntax.specs.Production.{name_of, left_of, symbol_of, right_of}
use Rattle.lido_syntax.specs.Sets.{names_of}
use Rattle.lido_syntax.specs.Symbols.{IsNonterminal, IsOnRightSide, IsTerm, IsChain}
use Rattle.lido_symbols.specs.Classes.{IsClass}
use Rattle.kind_clashes.specs.Least.{Among}

more-among : {X : Type 0} {Q : X → ℕ → Type 0} (x : X) (xs : List X) (at : ℕ) → Among Q xs at → Among Q (x ∷ xs) at
more-among x xs at h = record { item = h.item; among = contains-later x h.item xs h.among; is = h.is }

here-among : {X : Type 0} {Q : X → ℕ → Type 0} (x : X) (xs : List X) (at : ℕ) → Q x at → Among Q (x ∷ xs) at
here-among x xs at q = record { item = x; among = contains-here x xs; is = q }

-- the symbols of elements
pub symbols-among : (es : List Element) (s : ℕ) → Contains (filter_map symbol_of es) s → Among (λ e q. symbol_of e ≡ Some q) es s
symbols-among [] s m = absurd (contains-nil s m)
symbols-among (Symbol n ∷ es) s m = elim (contains-cons (name_of n) s (filter_map symbol_of es) m) [
  | inl e ↦ here-among (Symbol n) es s (ap Some e)
  | inr later ↦ more-among (Symbol n) es s (symbols-among es s later)
]
symbols-among (Literal t ∷ es) s m = more-among (Literal t) es s (symbols-among es s m)

among-symbol : (es : List Element) (e : Element) (s : ℕ) → Contains es e → symbol_of e ≡ Some s → Contains (filter_map symbol_of es) s
among-symbol [] e s m is = absurd (contains-nil e m)
among-symbol (Symbol n ∷ es) e s m is = elim (contains-cons (Symbol n) e es m) [
  | inl same ↦ subst (λ q. Contains (name_of n ∷ filter_map symbol_of es) q) (same_Some _ _ (ap symbol_of same ∙ is)) (contains-here (name_of n) (filter_map symbol_of es))
  | inr later ↦ contains-later (name_of n) s (filter_map symbol_of es) (among-symbol es e s later is)
]
among-symbol (Literal t ∷ es) e s m is = elim (contains-cons (Literal t) e es m) [
  | inl same ↦ absurd (none-some _ (ap symbol_of same ∙ is))
  | inr later ↦ among-symbol es e s later is
]

pub among-symbols : (es : List Element) (s : ℕ) → Among (λ e q. symbol_of e ≡ Some q) es s → Contains (filter_map symbol_of es) s
among-symbols es s h = among-symbol es h.item s h.among h.is

module _ (spec : Spec) where
  pub of-left_sides : (s : ℕ) → Among (λ (r : RuleItem) q. left_of r ≡ q) spec.rules s → IsNonterminal spec s
  of-left_sides s h = test-contains s (map left_of spec.rules) (subst (λ q. Contains (map left_of spec.rules) q) h.is (map-contains left_of spec.rules h.item h.among))

  pub to-left_sides : (s : ℕ) → IsNonterminal spec s → Among (λ (r : RuleItem) q. left_of r ≡ q) spec.rules s
  to-left_sides s n = let p = contains-map left_of spec.rules s (contains-test s (map left_of spec.rules) n) in record { item = p.0; among = p.1; is = p.2 }

  pub of-right_sides : (s : ℕ) → Among (λ (r : RuleItem). Among (λ (e : Element) q. symbol_of e ≡ Some q) r.right) spec.rules s → IsOnRightSide spec s
  of-right_sides s h = test-contains s (flat_map right_of spec.rules) (flat-contains right_of spec.rules h.item s h.among (among-symbols h.item.right s h.is))

  pub to-right_sides : (s : ℕ) → IsOnRightSide spec s → Among (λ (r : RuleItem). Among (λ (e : Element) q. symbol_of e ≡ Some q) r.right) spec.rules s
  to-right_sides s n = let p = contains-flat right_of spec.rules s (contains-test s (flat_map right_of spec.rules) n) in record { item = p.0; among = p.1; is = symbols-among p.0.right s p.2 }

  pub of-declared : (s : ℕ) → Among (λ (x : Typed1) q. name_of x.name ≡ q) spec.terms s → (ty : ValueType) × IsTerm spec s ty
  of-declared s h = (h.item.ty, (h.item, h.among, h.is, refl))

  pub to-declared : (s : ℕ) → (ty : ValueType) × IsTerm spec s ty → Among (λ (x : Typed1) q. name_of x.name ≡ q) spec.terms s
  to-declared s t = record { item = t.1.0; among = t.1.1; is = t.1.2 }

  pub of-chains : (s : ℕ) → Among (λ (x : Typed1) q. name_of x.name ≡ q) spec.chains s → IsChain spec s
  of-chains s h = test-contains s (map (λ (x : Typed1). name_of x.name) spec.chains)
      (subst (λ q. Contains (map (λ (x : Typed1). name_of x.name) spec.chains) q) h.is (map-contains (λ (x : Typed1). name_of x.name) spec.chains h.item h.among))

  pub to-chains : (s : ℕ) → IsChain spec s → Among (λ (x : Typed1) q. name_of x.name ≡ q) spec.chains s
  to-chains s n = let p = contains-map (λ (x : Typed1). name_of x.name) spec.chains s (contains-test s (map (λ (x : Typed1). name_of x.name) spec.chains) n) in record { item = p.0; among = p.1; is = p.2 }

  pub of-classes : (s : ℕ) → Among (λ (item : SymbolItem) q. IsTrue item.class × Contains (names_of item) q) spec.symbols s → IsClass spec s
  of-classes s h = (h.item, h.among, h.is.0, h.is.1)

  pub to-classes : (s : ℕ) → IsClass spec s → Among (λ (item : SymbolItem) q. IsTrue item.class × Contains (names_of item) q) spec.symbols s
  to-classes s c = record { item = c.0; among = c.1; is = (c.2, c.3) }
