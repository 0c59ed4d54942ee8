-- Names that are noted in the order of their places are numbered by first place.
use Rattle.std.specs.Prelude.{Contains, AllPairs, All, IsTrue, nat_eq, map}
use Rattle.std.specs.List.Sorted.{IsNonDecreasingBy, IsPermutation}
use Rattle.std.proofs.Common.{◌≡◌, ℕ, ◌+◌, ◌<◌, ◌≤◌, ◌⊎◌, inl, inr, Bool, true, false, List, [], ◌∷◌, ◌++◌, length, take, get_or, refl, arith, ap, sym, subst, ◌∙◌, true≢false, if◌then◌else◌}
use Rattle.std.proofs.lemmas.List.Elements.{Contains-append_left, Contains-append_right, Contains-append_cases, Contains-get_or, All-push}
use Rattle.std.proofs.lemmas.List.{take_more, get_or_default, get_or-take, length-take-le, map-append}
use Rattle.std.proofs.lemmas.List.Quantifiers.{all_pairs_push}
use Rattle.std.proofs.lemmas.List.Sorted.{Contains-permutation, IsPermutation-sym}
use Rattle.std.proofs.lemmas.Bool.{eqb-true, eq-eqb}
use Rattle.indexmap.specs.IndexSet.{insert_key}
use Rattle.lido_base.specs.Tree.{contains}
use Rattle.lido_base.proofs.Lists.{contains-cons, contains-nil, contains-here, contains-map, map-contains}
use Rattle.lido_base.proofs.TreeLemmas.{contains-test, test-contains}
use Rattle.lido_syntax.specs.declared.spec.Name.{Name}
use Rattle.lido_symbols.specs.Numbers.{AreNumbered}
use Rattle.lido_symbols.specs.Uses.{with_place}

-- of l each used stands behind one of k
abbrev Before : List (ℕ × ℕ) → ℕ → ℕ → Type 0
Before uses k l = (at : ℕ) (j : ℕ) → Contains uses (at, j) → IsTrue (nat_eq j l) → (first : ℕ) × (i : ℕ) × Contains uses (first, i) × IsTrue (nat_eq i k) × (first < at)

module _ (U : List (ℕ × ℕ)) (at k : ℕ) (in_order : (first l : ℕ) → Contains U (first, l) → (first ≤ at) × (first ≡ at → l ≡ k)) where
  abbrev V : List (ℕ × ℕ)
  V = U ++ (at, k) ∷ []

  old : (x : ℕ × ℕ) → Contains U x → Contains V x
  old x m = Contains-append_left U ((at, k) ∷ []) x m

  new : Contains V (at, k)
  new = Contains-append_right U ((at, k) ∷ []) (at, k) (contains-here (at, k) [])

  cases : (x : ℕ × ℕ) → Contains V x → Contains U x ⊎ ((at, k) ≡ x)
  cases x m = elim (Contains-append_cases U ((at, k) ∷ []) x m) [ inl l ↦ inl l | inr r ↦ elim (contains-cons (at, k) x [] r) [ inl e ↦ inr e | inr n ↦ absurd (contains-nil x n) ] ]

  kept : (j l : ℕ) → (first : ℕ) × Contains U (first, l) → Before U j l → Before V j l
  kept j l (first, named) before place m used same = by (cases (place, m) used)
    where
      by : Contains U (place, m) ⊎ ◌≡◌ {A = ℕ × ℕ} (at, k) (place, m) → (first : ℕ) × (i : ℕ) × Contains V (first, i) × IsTrue (nat_eq i j) × (first < place)
      by (inl u) = let b = before place m u same in (b.0, b.1, old (b.0, b.1) b.2, b.3, b.4)
      by (inr e) = let b = before first l named (eq-eqb l l refl) in
          let far : at ≡ place = ap (λ (x : ℕ × ℕ). x.0) e in
          let near = (in_order first l named).0 in
          (b.0, b.1, old (b.0, b.1) b.2, b.3, (omega arith))

  module _ (keys : List ℕ) (numbered : AreNumbered nat_eq U keys) where
    named_kept : All (λ l. (first : ℕ) × Contains V (first, l)) keys
    named_kept i d h = let n = numbered.named i d h in (n.0, old _ n.1)

    pairs_kept : AllPairs (Before V) keys
    pairs_kept i j d h below = kept (get_or keys i d) (get_or keys j d) (numbered.named j d below) (numbered.by_place i j d h below)

    there : IsTrue (contains k keys) → AreNumbered nat_eq V keys
    there has = record {
      named = named_kept;
      all = λ place l used. elim (cases (place, l) used) [
        | inl u ↦ numbered.all place l u
        | inr e ↦ (k, contains-test k keys has, eq-eqb l k (sym (ap (λ (x : ℕ × ℕ). x.1) e)))
      ];
      by_place = pairs_kept;
    }

    -- a key that wasn't there was not used
    unused : contains k keys ≡ false → (first : ℕ) → Contains U (first, k) → ⊥
    unused none first used = let a = numbered.all first k used in
        let same : k ≡ a.0 = eqb-true k a.0 a.2 in
        true≢false (sym (test-contains k keys (subst (Contains keys) (sym same) a.1)) ∙ none)

    before_new : contains k keys ≡ false → (l : ℕ) → Contains keys l → (first : ℕ) × Contains U (first, l) → Before V l k
    before_new none l among (first, named) place m used same = by (cases (place, m) used)
      where
        by : Contains U (place, m) ⊎ ◌≡◌ {A = ℕ × ℕ} (at, k) (place, m) → (first : ℕ) × (i : ℕ) × Contains V (first, i) × IsTrue (nat_eq i l) × (first < place)
        by (inl u) = absurd (unused none place (subst (λ x. Contains U (place, x)) (eqb-true m k same) u))
        by (inr e) =
            let order = in_order first l named in
            let far : at ≡ place = ap (λ (x : ℕ × ℕ). x.0) e in
            let near : first ≤ at = order.0 in
            let apart : first ≡ at → ⊥ = λ f. true≢false (sym (test-contains k keys (subst (Contains keys) (order.1 f) among)) ∙ none) in
            (first, l, old (first, l) named, eq-eqb l l refl, (omega (arith, apart)))

    absent : contains k keys ≡ false → AreNumbered nat_eq V (keys ++ k ∷ [])
    absent none = record {
      named = All-push (λ l. (first : ℕ) × Contains V (first, l)) keys k named_kept (at, new);
      all = λ place l used. elim (cases (place, l) used) [
        | inl u ↦ (let a = numbered.all place l u in (a.0, Contains-append_left keys (k ∷ []) a.0 a.1, a.2))
        | inr e ↦ (k, Contains-append_right keys (k ∷ []) k (contains-here k []), eq-eqb l k (sym (ap (λ (x : ℕ × ℕ). x.1) e)))
      ];
      by_place = all_pairs_push (Before V) keys k pairs_kept (λ i d h. before_new none (get_or keys i d) (Contains-get_or keys i d h) (numbered.named i d h));
    }

    added : AreNumbered nat_eq V (insert_key nat_eq keys k)
    added = by (contains k keys) refl
      where
        by : (b : Bool) → contains k keys ≡ b → AreNumbered nat_eq V (if b then keys else (keys ++ k ∷ []))
        by true e = there e
        by false e = absent e

pub numbered_none : AreNumbered nat_eq [] []
numbered_none = record {
  named = λ i d h. absurd (omega (arith, h));
  all = λ at k used. absurd (contains-nil (at, k) used);
  by_place = λ i j d h below. absurd (omega (arith, below));
}

abbrev pub TellNames : List Name → Type 0
TellNames uses = (x y : Name) → Contains uses x → Contains uses y → x.at ≡ y.at → x ≡ y

pub numbered_more : (uses : List Name) (i : ℕ) (x : Name) (keys : List ℕ) → TellNames uses → IsNonDecreasingBy (λ (n : Name). n.at) uses → i < length uses → x ≡ get_or uses i x
    → AreNumbered nat_eq (map with_place (take i uses)) keys → AreNumbered nat_eq (map with_place (take (i + 1) uses)) (insert_key nat_eq keys x.id.0)
numbered_more uses i x keys tell sorted h at before =
    subst (λ l. AreNumbered nat_eq l (insert_key nat_eq keys x.id.0)) more (added (map with_place (take i uses)) x.at x.id.0 in_order keys before)
  where
    more : map with_place (take i uses) ++ (x.at, x.id.0) ∷ [] ≡ map with_place (take (i + 1) uses)
    more = sym (map-append with_place (take i uses) (x ∷ [])) ∙ ap (map with_place) (ap (λ y. take i uses ++ y ∷ []) at ∙ sym (take_more uses i x h))

    here : Contains uses x
    here = subst (Contains uses) (sym at) (Contains-get_or uses i x h)

    in_order : (first l : ℕ) → Contains (map with_place (take i uses)) (first, l) → (first ≤ x.at) × (first ≡ x.at → l ≡ x.id.0)
    in_order first l used =
        let (y, among, e) = contains-map with_place (take i uses) (first, l) used in
        let (k, below, read) = among in
        let taken : length (take i uses) ≡ i = length-take-le i uses (omega arith) in
        let inside : k < length uses = omega arith in
        let y_at : y ≡ get_or uses k x = sym read ∙ get_or-take i uses k y (omega arith) ∙ get_or_default uses k y x inside in
        let there : Contains uses y = subst (Contains uses) (sym y_at) (Contains-get_or uses k x inside) in
        let order : (get_or uses k x).at ≤ (get_or uses i x).at = sorted k i x (omega arith) h in
        let place : y.at ≡ first = ap (λ (v : ℕ × ℕ). v.0) e in
        let name : y.id.0 ≡ l = ap (λ (v : ℕ × ℕ). v.1) e in
        let y_place : y.at ≡ (get_or uses k x).at = ap (λ (n : Name). n.at) y_at in
        let x_place : x.at ≡ (get_or uses i x).at = ap (λ (n : Name). n.at) at in
        ((omega arith), λ same. sym name ∙ ap (λ (n : Name). n.id.0) (tell y x there here (place ∙ same)))

-- a set of uses in another order has the same numbers
pub numbered_same : {K : Type 0} (same : K → K → Bool) (uses others : List (ℕ × K)) (keys : List K) → ((x : ℕ × K) → Contains uses x → Contains others x) → ((x : ℕ × K) → Contains others x → Contains uses x)
    → AreNumbered same uses keys → AreNumbered same others keys
numbered_same {K} same uses others keys there back numbered = record {
  named = λ i d h. (let n = numbered.named i d h in (n.0, there _ n.1));
  all = λ at k used. numbered.all at k (back (at, k) used);
  by_place = λ i j d h below at m used is. (let b = numbered.by_place i j d h below at m (back (at, m) used) is in (b.0, b.1, there (b.0, b.1) b.2, b.3, b.4));
}

-- the uses in another order
pub numbered_permuted : (uses sorted : List Name) (keys : List ℕ) → IsPermutation uses sorted → AreNumbered nat_eq (map with_place sorted) keys → AreNumbered nat_eq (map with_place uses) keys
numbered_permuted uses sorted keys moved numbered = numbered_same nat_eq (map with_place sorted) (map with_place uses) keys
    (λ x m. let (y, among, e) = contains-map with_place sorted x m in subst (Contains (map with_place uses)) e (map-contains with_place uses y (Contains-permutation sorted uses y (IsPermutation-sym uses sorted moved) among)))
    (λ x m. let (y, among, e) = contains-map with_place uses x m in subst (Contains (map with_place sorted)) e (map-contains with_place sorted y (Contains-permutation uses sorted y moved among)))
    numbered

pub told_permuted : (uses sorted : List Name) → IsPermutation uses sorted → TellNames uses → TellNames sorted
told_permuted uses sorted moved tell x y m k e =
    let back = IsPermutation-sym uses sorted moved in
    tell x y (Contains-permutation sorted uses x back m) (Contains-permutation sorted uses y back k) e
