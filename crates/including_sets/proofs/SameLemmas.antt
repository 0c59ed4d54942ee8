-- INCLUDINGs that list the same.
use Rattle.std.specs.Prelude.{IsTrue, Contains, ◌&&◌, nat_eq, filter, find, cond}
use Rattle.std.specs.Bool.{Decides}
use Rattle.std.specs.List.{list_all}
use Rattle.std.proofs.Common.{◌≡◌, ◌∙◌, ℕ, inl, inr, Bool, true, false, if◌then◌else◌, List, [], ◌∷◌, Option, Some, None, refl, sym, ap, subst, eqb-true, eq-eqb}
use Rattle.std.proofs.lemmas.Slice.Eq.{slice_eq-Decides}
use Rattle.std.proofs.lemmas.Option.{none-some, same_Some}
use Rattle.lido_base.proofs.Lists.{contains-nil, contains-cons, contains-here, contains-later}
use Rattle.lido_base.proofs.TreeLemmas.{both}
use Rattle.lido_syntax.specs.declared.spec.Spec.{Spec}
use Rattle.lido_syntax.specs.declared.spec.Pair.{Pair}
use Rattle.lido_syntax.specs.declared.spec.RuleItem.{RuleItem}
use Rattle.lido_syntax.specs.Production.{left_of}
use Rattle.lido_syntax.specs.Sets.{Sets}
use Rattle.lido_syntax.specs.Including.{listed}
use Rattle.lido_symbols.specs.Uses.{is_same_option, is_same_set}
use Rattle.including_sets.specs.declared.listings.ListedAttr.{ListedAttr}
use Rattle.including_sets.specs.declared.listings.Listing.{Listing}
use Rattle.including_sets.specs.Listings.{is_same_attr, is_same_listing}

pub both-and : (a b : Bool) → IsTrue a → IsTrue b → IsTrue (a && b)
both-and a b p q = ap (λ c. c && b) p ∙ q

module _ {X : Type 0} (test : X → Bool) where
  pub all-true : (xs : List X) → ((x : X) → Contains xs x → IsTrue (test x)) → IsTrue (list_all test xs)
  all-true [] h = refl
  all-true (x ∷ xs) h = both-and (test x) (list_all test xs) (h x (contains-here x xs)) (all-true xs (λ y m. h y (contains-later x y xs m)))

  pub true-of-all : (xs : List X) → IsTrue (list_all test xs) → (x : X) → Contains xs x → IsTrue (test x)
  true-of-all [] h x m = absurd (contains-nil x m)
  true-of-all (y ∷ xs) h x m =
      let (first, rest) = both (test y) (list_all test xs) h in
      elim (contains-cons y x xs m) [
        | inl e ↦ subst (λ z. IsTrue (test z)) e first
        | inr k ↦ true-of-all xs rest x k
      ]

  pub filter-passes : (xs : List X) (x : X) → Contains (filter test xs) x → IsTrue (test x)
  filter-passes [] x m = absurd (contains-nil x m)
  filter-passes (y ∷ xs) x m = by (test y) refl m (filter-passes xs x)
    where
      by : (b : Bool) → test y ≡ b → Contains (cond b (y ∷ filter test xs) (filter test xs)) x → (Contains (filter test xs) x → IsTrue (test x)) → IsTrue (test x)
      by true e k more = elim (contains-cons y x (filter test xs) k) [ inl s ↦ sym (ap test s) ∙ e | inr n ↦ more n ]
      by false e k more = more k

  -- what is found is there and passes, and where one passes one is found
  pub find-of : (xs : List X) (x : X) → find test xs ≡ Some x → Contains xs x × IsTrue (test x)
  find-of [] x e = absurd (none-some x e)
  find-of (y ∷ xs) x e = by (test y) refl e (find-of xs x)
    where
      by : (b : Bool) → test y ≡ b → (if b then Some y else find test xs) ≡ Some x → (find test xs ≡ Some x → Contains xs x × IsTrue (test x)) → Contains (y ∷ xs) x × IsTrue (test x)
      by true h f more = let s = same_Some _ _ f in (subst (λ z. Contains (y ∷ xs) z) s (contains-here y xs), sym (ap test s) ∙ h)
      by false h f more = let (m, t) = more f in (contains-later y x xs m, t)

  pub find-there : (xs : List X) (x : X) → Contains xs x → IsTrue (test x) → (y : X) × (find test xs ≡ Some y)
  find-there [] x m h = absurd (contains-nil x m)
  find-there (y ∷ xs) x m h = by (test y) refl (λ k. find-there xs x k h)
    where
      by : (b : Bool) → test y ≡ b → (Contains xs x → (z : X) × (find test xs ≡ Some z)) → (z : X) × ((if b then Some y else find test xs) ≡ Some z)
      by true e more = (y, refl)
      by false e more = elim (contains-cons y x xs m) [
        | inl s ↦ (let wrong : true ≡ false = sym h ∙ ap test (sym s) ∙ e in absurd (cc))
        | inr k ↦ more k
      ]

-- one attribute or none
pub option-itself : (o : Option ℕ) → IsTrue (is_same_option o o)
option-itself None = refl
option-itself (Some a) = eq-eqb a a refl

pub option-same : (o p : Option ℕ) → IsTrue (is_same_option o p) → o ≡ p
option-same None None h = refl
option-same (Some a) (Some b) h = ap Some (eqb-true a b h)
option-same None (Some b) h = absurd (cc)
option-same (Some a) None h = absurd (cc)

module _ (spec : Spec) (sets : Sets spec) where
  abbrev pub gives : List Pair → List Pair → RuleItem → Bool
  gives p q r = is_same_option (listed spec sets p (left_of r)) (listed spec sets q (left_of r))

  pub set-itself : (p : List Pair) → IsTrue (is_same_set spec sets p p)
  set-itself p = all-true (gives p p) spec.rules (λ r m. option-itself (listed spec sets p (left_of r)))

  pub set-flips : (p q : List Pair) → IsTrue (is_same_set spec sets p q) → IsTrue (is_same_set spec sets q p)
  set-flips p q h = all-true (gives q p) spec.rules (λ r m.
      let e = option-same (listed spec sets p (left_of r)) (listed spec sets q (left_of r)) (true-of-all (gives p q) spec.rules h r m) in
      subst (λ o. IsTrue (is_same_option o (listed spec sets p (left_of r)))) e (option-itself (listed spec sets p (left_of r))))

attr-decides : (a b : ListedAttr) → Decides (is_same_attr a b) (a ≡ b)
attr-decides a b = (
  (λ h. let (p, q) = both (nat_eq a.sym.0 b.sym.0) (nat_eq a.attr.0 b.attr.0) h in
      let x = eqb-true a.sym.0 b.sym.0 p in
      let y = eqb-true a.attr.0 b.attr.0 q in
      let make : ℕ → ℕ → ListedAttr = λ m n. record { sym = record { 0 = m }; attr = record { 0 = n } } in
      λ i. make (x i) (y i)),
  (λ e. both-and (nat_eq a.sym.0 b.sym.0) (nat_eq a.attr.0 b.attr.0) (eq-eqb a.sym.0 b.sym.0 (ap (λ (z : ListedAttr). z.sym.0) e)) (eq-eqb a.attr.0 b.attr.0 (ap (λ (z : ListedAttr). z.attr.0) e))),
)

pub listing-decides : (l m : Listing) → Decides (is_same_listing l m) (l.attrs.now ≡ m.attrs.now)
listing-decides l m = slice_eq-Decides attr-decides l.attrs.now m.attrs.now (is_same_listing l m) refl
