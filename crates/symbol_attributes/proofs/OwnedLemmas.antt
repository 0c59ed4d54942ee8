-- What is named on a symbol or on a class that it inherits are its attributes.
use Rattle.std.specs.Prelude.{IsTrue, nat_eq, ◌||◌}
use Rattle.std.proofs.Common.{ℕ, Bool, true, false, ◌⊎◌, inl, inr, List, refl, sym, subst, eqb-true, eq-eqb}
use Rattle.lido_syntax.specs.declared.spec.Spec.{Spec}
use Rattle.lido_syntax.specs.Attributes.{IsNamed, Has}
use Rattle.kind_clashes.specs.Least.{Among}
use Rattle.symbol_attributes.specs.Inheritance.{number, is_heir, IsInheritance}
use Rattle.symbol_attributes.specs.Named.{AreNamed}
use Rattle.symbol_attributes.specs.Owned.{IsPassed}
use Rattle.symbol_attributes.specs.declared.inheritance.Inheritance.{Inheritance}
use Rattle.symbol_attributes.specs.declared.named.SymbolAttribute.{SymbolAttribute}

one-of : (a b : Bool) → IsTrue (a || b) → IsTrue a ⊎ IsTrue b
one-of true b h = inl refl
one-of false b h = inr h

first-of : (a b : Bool) → IsTrue a → IsTrue (a || b)
first-of true b h = refl
first-of false b h = absurd (cc)

second-of : (a b : Bool) → IsTrue b → IsTrue (a || b)
second-of true b h = refl
second-of false b h = h

module _ (spec : Spec) (list : List SymbolAttribute) (names : List ℕ) (inheritance : Inheritance) (s : ℕ)
    (are : AreNamed spec list) (is : IsInheritance spec names inheritance) where
  pub to-has : (a : ℕ) → Among (IsPassed inheritance names s) list a → Has spec s a
  to-has a h = subst (λ b. Has spec s b) h.is.1 (by (one-of (nat_eq s h.item.symbol.0) (is_heir inheritance (number names s) (number names h.item.symbol.0)) h.is.0))
    where
      named : IsNamed spec h.item.symbol.0 h.item.attribute.0
      named = (are h.item.symbol.0 h.item.attribute.0).0 h.among

      by : IsTrue (nat_eq s h.item.symbol.0) ⊎ IsTrue (is_heir inheritance (number names s) (number names h.item.symbol.0)) → Has spec s h.item.attribute.0
      by (inl e) = inl (subst (λ t. IsNamed spec t h.item.attribute.0) (sym (eqb-true s h.item.symbol.0 e)) named)
      by (inr i) = inr (h.item.symbol.0, (is s h.item.symbol.0).0 i, named)

  pub from-has : (a : ℕ) → Has spec s a → Among (IsPassed inheritance names s) list a
  from-has a (inl n) = record {
    item = record { symbol = record { 0 = s }; attribute = record { 0 = a } };
    among = (are s a).1 n;
    is = (first-of (nat_eq s s) (is_heir inheritance (number names s) (number names s)) (eq-eqb s s refl), refl);
  }
  from-has a (inr (class, i, n)) = record {
    item = record { symbol = record { 0 = class }; attribute = record { 0 = a } };
    among = (are class a).1 n;
    is = (second-of (nat_eq s class) (is_heir inheritance (number names s) (number names class)) ((is s class).1 i), refl);
  }
