-- The symbols and classes that have an attribute.
use Rattle.std.specs.Prelude.{IsTrue, ◌⊎◌, true}
use Rattle.std.proofs.Common.{◌≡◌, ℕ, inl, inr, List, refl, sym, subst}
use Rattle.std.proofs.lemmas.Bool.{and_parts, and_from}
use Rattle.std.proofs.lemmas.List.Folds.{Any-from_list_any, list_any_at}
use Rattle.lido_syntax.specs.declared.spec.Spec.{Spec}
use Rattle.lido_syntax.specs.Attributes.{IsNamed, Has}
use Rattle.kind_clashes.specs.declared.names.Names.{Names}
use Rattle.kind_clashes.specs.Least.{Among}
use Rattle.kind_clashes.specs.Names.{has, IsSetOf}
use Rattle.symbol_attributes.specs.Inheritance.{number, is_heir, IsInheritance, AreNumberedIn}
use Rattle.symbol_attributes.specs.Named.{AreNamed}
use Rattle.symbol_attributes.specs.declared.inheritance.Inheritance.{Inheritance}
use Rattle.symbol_attributes.specs.declared.named.SymbolAttribute.{SymbolAttribute}
use Rattle.clash_pairs.specs.Bearers.{is_owning_class, has_owning_class}
use Rattle.clash_pairs.proofs.NumberedLemmas.{heir-numbered, class-numbered}

abbrev pub IsOwner : List SymbolAttribute → ℕ → Type 0
IsOwner named = Among (λ (one : SymbolAttribute) s. one.symbol.0 ≡ s) named

abbrev pub IsHeir : Names → List ℕ → Inheritance → ℕ → Type 0
IsHeir owners names inheritance = Among (λ x s. IsTrue (has_owning_class owners names inheritance (number names x)) × (x ≡ s)) names

module _ (named : List SymbolAttribute) (names : List ℕ) (inheritance : Inheritance) (owners set : Names) (own : IsSetOf (IsOwner named) owners)
    (all : IsSetOf (λ s. IsOwner named s ⊎ IsHeir owners names inheritance s) set) (spec : Spec) (are : AreNamed spec named) (known : AreNumberedIn names spec.symbols) (is : IsInheritance spec names inheritance) where
  owner-named : (s : ℕ) → IsOwner named s → (a : ℕ) × IsNamed spec s a
  owner-named s h = (h.item.attribute.0, subst (λ z. IsNamed spec z h.item.attribute.0) h.is ((are h.item.symbol.0 h.item.attribute.0).0 h.among))

  named-owner : (s a : ℕ) → IsNamed spec s a → IsOwner named s
  named-owner s a n = record { item = record { symbol = record { 0 = s }; attribute = record { 0 = a } }; among = (are s a).1 n; is = refl }

  heir-has : (x : ℕ) → IsTrue (has_owning_class owners names inheritance (number names x)) → (a : ℕ) × Has spec x a
  heir-has x h =
      let (k, class, below, at, test) = Any-from_list_any (is_owning_class owners names inheritance (number names x)) names h in
      let p = and_parts (has owners class) (is_heir inheritance (number names x) (number names class)) test in
      let n = owner-named class (own.only class p.0) in
      (n.0, inr (class, (is x class).0 p.1, n.1))

  pub are-bearers : IsSetOf (λ s. (a : ℕ) × Has spec s a) set
  are-bearers = record { only = only; all = back }
    where
      only : (s : ℕ) → IsTrue (has set s) → (a : ℕ) × Has spec s a
      only s h = elim (all.only s h) [
        | inl o ↦ (let n = owner-named s o in (n.0, inl n.1))
        | inr k ↦ subst (λ z. (a : ℕ) × Has spec z a) k.is.1 (heir-has k.item k.is.0)
      ]

      back : (s : ℕ) → (a : ℕ) × Has spec s a → IsTrue (has set s)
      back s (a, inl n) = all.all s (inl (named-owner s a n))
      back s (a, inr (class, i, n)) =
          let (k, below, at) = class-numbered spec names known class s i in
          let test : is_owning_class owners names inheritance (number names s) class ≡ true =
          and_from (has owners class) (is_heir inheritance (number names s) (number names class)) (own.all class (named-owner class a n)) ((is s class).1 i) in
          all.all s (inr (record {
            item = s;
            among = heir-numbered spec names known s class i;
            is = (list_any_at (is_owning_class owners names inheritance (number names s)) names k class below (subst (λ z. is_owning_class owners names inheritance (number names s) z ≡ true) (sym at) test), refl);
          }))
