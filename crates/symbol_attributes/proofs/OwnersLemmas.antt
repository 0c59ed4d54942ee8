-- The symbol and the classes that it inherits, as a list.
use Rattle.std.specs.Prelude.{slice_get, Contains, IsTrue, map, ◌&&◌, if◌then◌else◌}
use Rattle.std.proofs.Common.{◌≡◌, ℕ, ◌+◌, ◌≤◌, ◌⊎◌, inl, inr, Bool, true, false, List, [], ◌∷◌, ◌++◌, length, take, take_all, Some, sym, ap, subst, ◌∙◌}
use Rattle.std.proofs.lemmas.List.{append-nil}
use Rattle.std.proofs.lemmas.List.Elements.{Contains-append_left, Contains-append_right, Contains-append_cases}
use Rattle.std.proofs.lemmas.List.Folds.{Any-from_list_any}
use Rattle.lido_base.specs.Tree.{contains}
use Rattle.lido_base.specs.Reach.{source, edge}
use Rattle.lido_base.proofs.Lists.{contains-nil, contains-cons, contains-here, contains-map}
use Rattle.lido_base.proofs.TreeLemmas.{contains-test, both}
use Rattle.lido_syntax.specs.declared.spec.Spec.{Spec}
use Rattle.lido_syntax.specs.declared.spec.SymbolItem.{SymbolItem}
use Rattle.lido_syntax.specs.Production.{name_of}
use Rattle.lido_syntax.specs.Sets.{Inherits, inherits_directly, names_of}
use Rattle.least_paths.proofs.GraphLemmas.{next-cases, next-old, next-here}
use Rattle.symbol_attributes.specs.Inheritance.{number, is_heir, AreNumberedIn, IsInheritance}
use Rattle.symbol_attributes.specs.Written.{AreOwners}
use Rattle.symbol_attributes.specs.declared.inheritance.Inheritance.{Inheritance}

-- a class that an item inherits has a number
directly-numbered : (spec : Spec) (names : List ℕ) → AreNumberedIn names spec.symbols → (s class : ℕ) → IsTrue (inherits_directly spec s class) → Contains names class
directly-numbered spec names known s class h =
    let (k, item, below, at, is) = Any-from_list_any (λ (item : SymbolItem). contains s (names_of item) && contains class (map name_of item.inherits)) spec.symbols h in
    let (own, there) = both (contains s (names_of item)) (contains class (map name_of item.inherits)) is in
    let (y, m, e) = contains-map name_of item.inherits class (contains-test class (map name_of item.inherits) there) in
    subst (λ z. Contains names z) e (known item y (k, below, at) (inr m))

inherited-numbered : (spec : Spec) (names : List ℕ) → AreNumberedIn names spec.symbols → (class s : ℕ) → Inherits spec s class → Contains names class
inherited-numbered spec names known class s (source h) = directly-numbered spec names known s class h
inherited-numbered spec names known class s (edge {c = c} h later) = inherited-numbered spec names known class c later

module _ (names : List ℕ) (inheritance : Inheritance) (symbol : ℕ) where
  -- the symbol, and those of the first names that it inherits
  pub record AreFirstOwners (k : ℕ) (owners : List ℕ) : Type 0 where
    pub only : (c : ℕ) → Contains owners c → (symbol ≡ c) ⊎ (Contains (take k names) c × IsTrue (is_heir inheritance (number names symbol) (number names c)))
    pub own : Contains owners symbol
    pub all : (c : ℕ) → Contains (take k names) c → IsTrue (is_heir inheritance (number names symbol) (number names c)) → Contains owners c

  pub owners-begin : AreFirstOwners 0 (symbol ∷ [])
  owners-begin = record {
    only = λ c m. elim (contains-cons symbol c [] m) [ inl e ↦ inl e | inr n ↦ absurd (contains-nil c n) ];
    own = contains-here symbol [];
    all = λ c m h. absurd (contains-nil c m);
  }

  owners-more : (k x : ℕ) (owners more : List ℕ) → slice_get names k ≡ Some x → IsTrue (is_heir inheritance (number names symbol) (number names x)) → more ≡ owners ++ x ∷ []
      → AreFirstOwners k owners → AreFirstOwners (k + 1) more
  owners-more k x owners more at heir e are = subst (AreFirstOwners (k + 1)) (sym e) (record {
    only = λ c m. elim (Contains-append_cases owners (x ∷ []) c m) [
      | inl old ↦ elim (are.only c old) [ inl same ↦ inl same | inr h ↦ inr (next-old names k x c at h.0, h.1) ]
      | inr new ↦ elim (contains-cons x c [] new) [
        | inl same ↦ inr (subst (λ z. Contains (take (k + 1) names) z) same (next-here names k x at), subst (λ z. IsTrue (is_heir inheritance (number names symbol) (number names z))) same heir)
        | inr none ↦ absurd (contains-nil c none)
      ]
    ];
    own = Contains-append_left owners (x ∷ []) symbol are.own;
    all = λ c m h. elim (next-cases names k x c at m) [
      | inl old ↦ Contains-append_left owners (x ∷ []) c (are.all c old h)
      | inr same ↦ subst (λ z. Contains (owners ++ x ∷ []) z) same (Contains-append_right owners (x ∷ []) x (contains-here x []))
    ];
  })

  owners-skip : (k x : ℕ) (owners : List ℕ) → slice_get names k ≡ Some x → is_heir inheritance (number names symbol) (number names x) ≡ false
      → AreFirstOwners k owners → AreFirstOwners (k + 1) owners
  owners-skip k x owners at none are = record {
    only = λ c m. elim (are.only c m) [ inl same ↦ inl same | inr h ↦ inr (next-old names k x c at h.0, h.1) ];
    own = are.own;
    all = λ c m h. elim (next-cases names k x c at m) [
      | inl old ↦ are.all c old h
      | inr same ↦ absurd (let g = subst (λ z. IsTrue (is_heir inheritance (number names symbol) (number names z))) (sym same) h in cc)
    ];
  }

  pub owners-next : (items : List ℕ) (k x : ℕ) (owners more : List ℕ) (b : Bool) → items ≡ names → slice_get items k ≡ Some x → b ≡ is_heir inheritance (number names symbol) (number names x)
      → more ≡ owners ++ (if b then x ∷ [] else []) → AreFirstOwners k owners → AreFirstOwners (k + 1) more
  owners-next items k x owners more true same at e added are = owners-more k x owners more (sym (ap (λ (xs : List ℕ). slice_get xs k) same) ∙ at) (sym e) added are
  owners-next items k x owners more false same at e added are =
      subst (AreFirstOwners (k + 1)) (sym (added ∙ append-nil owners)) (owners-skip k x owners (sym (ap (λ (xs : List ℕ). slice_get xs k) same) ∙ at) (sym e) are)

  pub are-owners : (items : List ℕ) (k : ℕ) (owners : List ℕ) → items ≡ names → length items ≤ k → AreFirstOwners k owners → (spec : Spec) → AreNumberedIn names spec.symbols → IsInheritance spec names inheritance → AreOwners spec symbol owners
  are-owners items k owners same l are spec known is c = (to, from)
    where
      whole : take k names ≡ names
      whole = take_all k names (subst (λ (xs : List ℕ). length xs ≤ k) same l)

      to : Contains owners c → (symbol ≡ c) ⊎ Inherits spec symbol c
      to m = elim (are.only c m) [ inl e ↦ inl e | inr h ↦ inr ((is symbol c).0 h.1) ]

      from : (symbol ≡ c) ⊎ Inherits spec symbol c → Contains owners c
      from (inl e) = subst (λ z. Contains owners z) e are.own
      from (inr h) = are.all c (subst (λ (ns : List ℕ). Contains ns c) (sym whole) (inherited-numbered spec names known c symbol h)) ((is symbol c).1 h)
