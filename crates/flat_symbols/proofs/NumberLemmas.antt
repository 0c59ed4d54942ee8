-- The numbers of CONSTITUENTS.
use Rattle.std.specs.Prelude.{◌↔◌, Contains, AllPairs, nat_eq, flat_map, filter_map}
use Rattle.std.specs.List.{cons_option, dedup}
use Rattle.std.specs.List.Sorted.{IsStrictlyIncreasing, IsPermutation, IsSorted, IsBinarySearchResult}
use Rattle.std.proofs.Common.{◌≡◌, ◌∙◌, ℕ, zero, suc, ◌<◌, ◌≤◌, ◌⊎◌, inl, inr, Bool, true, false, if◌then◌else◌, List}
use Rattle.std.proofs.Common.{[], ◌∷◌, ◌++◌, length, map, get_or, refl, ap, sym, subst, arith, eqb, nat_cmp, Ok, Err, append-nil, eqb-true, eq-eqb}
use Rattle.std.proofs.lemmas.List.Kept.{Contains-dedup_nat, Contains-from_dedup, AllPairs-from_increasing}
use Rattle.std.proofs.lemmas.List.Sorted.{Contains-permutation, IsPermutation-sym, searched}
use Rattle.std.proofs.lemmas.Bool.{cases_lt}
use Rattle.std.proofs.lemmas.List.{get_or-map, length-map}
use Rattle.std.proofs.lemmas.List.Elements.{All-contains}
use Rattle.std.proofs.lemmas.Map.Keys.{IsStrictlyIncreasing-dedup}
use Rattle.lido_base.proofs.Lists.{contains-nil, contains-cons, contains-here, contains-later, contains-map, map-contains, place-below}
use Rattle.lido_syntax.specs.declared.spec.Spec.{Spec}
use Rattle.lido_syntax.specs.declared.spec.Comp.{Comp}
use Rattle.lido_syntax.specs.declared.spec.Cons.{Cons}
use Rattle.lido_syntax.specs.declared.spec.Expr.{Expr, Constituents}
use Rattle.lido_syntax.specs.Parts.{leaves_of}
use Rattle.lido_symbols.specs.Numbers.{place_in, AreNumbered}
use Rattle.lido_symbols.specs.Uses.{computations, constituents_of, all_constituents, is_same_constituents}
use Rattle.lido_symbols.proofs.CollectedLemmas.{flat_both}
use Rattle.flat_symbols.specs.declared.constituents.Numbers.{Numbers}
use Rattle.flat_symbols.specs.Constituents.{numbers_in, numbers_of, AreNumbersOf}

-- ---- those of a text

in-leaf : (e : Expr) (more : List (ℕ × Cons))
    → map (λ (x : ℕ × Cons). x.0) (cons_option (constituents_of e) more) ≡ numbers_in e ++ map (λ (x : ℕ × Cons). x.0) more
in-leaf (Constituents k) more = refl
in-leaf _ more = refl

in-leaves : (es : List Expr) → map (λ (x : ℕ × Cons). x.0) (filter_map constituents_of es) ≡ flat_map numbers_in es
in-leaves [] = refl
in-leaves (e ∷ es) = in-leaf e (filter_map constituents_of es) ∙ ap (λ l. numbers_in e ++ l) (in-leaves es)

in-computations : (cs : List Comp) → flat_map numbers_in (flat_map leaves_of cs) ≡ flat_map numbers_of cs
in-computations cs =
    let both = flat_both numbers_in leaves_of leaves_of cs [] in
    ap (flat_map numbers_in) (sym (append-nil (flat_map leaves_of cs))) ∙ sym both ∙ append-nil (flat_map numbers_of cs)

pub are-numbers : (spec : Spec) (found sorted once : List ℕ) (numbers : Numbers) → found ≡ flat_map numbers_of (computations spec)
    → IsPermutation found sorted → IsSorted nat_cmp sorted → once ≡ dedup eqb sorted
    → numbers.list ≡ once → AreNumbersOf spec numbers
are-numbers spec found sorted once numbers all moved order is list =
    let same : numbers.list ≡ dedup eqb sorted = list ∙ is in
    let text : map (λ (x : ℕ × Cons). x.0) (all_constituents spec) ≡ found = in-leaves (flat_map leaves_of (computations spec)) ∙ in-computations
    (computations spec) ∙ sym all in
    record {
      rises = subst IsStrictlyIncreasing (sym same) (IsStrictlyIncreasing-dedup sorted order);
      all = λ n. (
        (λ m. subst (λ l. Contains l n) (sym text) (Contains-permutation sorted found n (IsPermutation-sym found sorted moved)
            (Contains-from_dedup eqb sorted n (subst (λ l. Contains l n) same m)))),
        (λ m. subst (λ l. Contains l n) (sym same) (Contains-dedup_nat sorted n
            (Contains-permutation found sorted n moved (subst (λ l. Contains l n) text m)))),
      );
    }

-- ---- places

place-first : (n : ℕ) (xs : List ℕ) (i : ℕ) → i < length xs → get_or xs i 0 ≡ n → ((j : ℕ) → j < i → get_or xs j 0 ≡ n → ⊥) → i ≡ place_in (λ m. nat_eq m n) xs
place-first n [] i h e before = absurd (omega (arith, h))
place-first n (x ∷ xs) zero h e before = sym (ap (λ (b : Bool). if b then 0 else suc (place_in (λ m. nat_eq m n) xs)) (eq-eqb x n e))
place-first n (x ∷ xs) (suc i) h e before = by (nat_eq x n) refl (place-first n xs i (omega (arith, h)) e (λ j l. before (suc j) (omega (arith, l))))
  where
    by : (b : Bool) → nat_eq x n ≡ b → i ≡ place_in (λ m. nat_eq m n) xs → suc i ≡ (if b then 0 else suc (place_in (λ m. nat_eq m n) xs))
    by true t later = absurd (before 0 (omega arith) (eqb-true x n t))
    by false t later = ap suc later

place-none : (n : ℕ) (xs : List ℕ) → ((j : ℕ) → j < length xs → get_or xs j 0 ≡ n → ⊥) → length xs ≡ place_in (λ m. nat_eq m n) xs
place-none n [] other = refl
place-none n (x ∷ xs) other = by (nat_eq x n) refl (place-none n xs (λ j l. other (suc j) (omega (arith, l))))
  where
    by : (b : Bool) → nat_eq x n ≡ b → length xs ≡ place_in (λ m. nat_eq m n) xs → suc (length xs) ≡ (if b then 0 else suc (place_in (λ m. nat_eq m n) xs))
    by true t later = absurd (other 0 (omega arith) (eqb-true x n t))
    by false t later = ap suc later

-- numbers that rise do not fall
no-fall : (xs : List ℕ) → IsStrictlyIncreasing xs → (i j : ℕ) → i ≤ j → j < length xs → get_or xs i 0 ≤ get_or xs j 0
no-fall xs rises i j h below = elim (cases_lt i j) [
  | inl l ↦ let less = AllPairs-from_increasing xs rises i j 0 l below in omega (arith, less)
  | inr l ↦ let same : i ≡ j = omega (arith, h, l) in let equal = ap (λ (k : ℕ). get_or xs k 0) same in omega (arith, equal)
]

pub place-found : (xs : List ℕ) (n i : ℕ) → IsBinarySearchResult (λ y. nat_cmp y n) xs (Ok i) → IsStrictlyIncreasing xs → i ≡ place_in (λ m. nat_eq m n) xs
place-found xs n i result rises =
    let (within, here) = searched xs n (Ok i) result (no-fall xs rises) in
    place-first n xs i within here (λ j l e. let less = AllPairs-from_increasing xs rises j i 0 l within in omega (arith, less, here, e))

pub place-missed : (xs : List ℕ) (n i : ℕ) → IsBinarySearchResult (λ y. nat_cmp y n) xs (Err i) → IsStrictlyIncreasing xs
    → length xs ≡ place_in (λ m. nat_eq m n) xs
place-missed xs n i result rises =
    let (within, low, high) = searched xs n (Err i) result (no-fall xs rises) in
    place-none n xs (λ j l e. elim (cases_lt j i) [
      | inl k ↦ (let less = low j k in omega (arith, less, e))
      | inr k ↦
          (let less = high j k l in omega (arith, less, e))
    ])

-- ---- the same numbers in order are one list

pub one-order : (xs ys : List ℕ) → AllPairs (λ x y. x < y) xs → AllPairs (λ x y. x < y) ys → ((n : ℕ) → Contains xs n → Contains ys n)
    → ((n : ℕ) → Contains ys n → Contains xs n) → xs ≡ ys
one-order [] [] p q f g = refl
one-order [] (y ∷ ys) p q f g = absurd (contains-nil y (g y (contains-here y ys)))
one-order (x ∷ xs) [] p q f g = absurd (contains-nil x (f x (contains-here x xs)))
one-order (x ∷ xs) (y ∷ ys) p q f g =
    let same : x ≡ y = heads (contains-cons y x ys (f x (contains-here x xs))) (contains-cons x y xs (g y (contains-here y ys))) in
    let rest = one-order xs ys (behind x xs p) (behind y ys q)
    (λ n m. elim (contains-cons y n ys (f n (contains-later x n xs m)))
    [ inl e ↦ absurd (let less = first x xs p n m in omega (arith, less, same, e)) | inr k ↦ k ])
    (λ n m. elim (contains-cons x n xs (g n (contains-later y n ys m)))
    [ inl e ↦ absurd (let less = first y ys q n m in omega (arith, less, same, e)) | inr k ↦ k ]) in
    λ i. same i ∷ rest i
  where
    first : (x : ℕ) (xs : List ℕ) → AllPairs (λ x y. x < y) (x ∷ xs) → (n : ℕ) → Contains xs n → x < n
    first x xs p n (k, below, e) = let less = p 0 (suc k) n (omega arith) (omega (arith, below)) in omega (arith, less, e)

    behind : (x : ℕ) (xs : List ℕ) → AllPairs (λ x y. x < y) (x ∷ xs) → AllPairs (λ x y. x < y) xs
    behind x xs p i j d less below = p (suc i) (suc j) d (omega (arith, less)) (omega (arith, below))

    heads : (y ≡ x) ⊎ Contains ys x → (x ≡ y) ⊎ Contains xs y → x ≡ y
    heads (inl e) other = sym e
    heads (inr m) (inl e) = e
    heads (inr m) (inr k) = let less = first y ys q x m in let more = first x xs p y k in absurd (omega (arith, less, more))

-- ---- those of the definition

module _ (uses : List (ℕ × Cons)) (keys : List Cons) (numbered : AreNumbered is_same_constituents uses keys)
    (own : (u : ℕ × Cons) → Contains uses u → u.0 ≡ u.1.number) where
  abbrev number_of : Cons → ℕ
  number_of k = k.number

  keys-rise : AllPairs (λ (k l : Cons). k.number < l.number) keys
  keys-rise i j d less below =
      let k = get_or keys i d in
      let l = get_or keys j d in
      let (at, used) = numbered.named j d below in
      let (first, other, there, same, before) = numbered.by_place i j d less below at l used (eq-eqb l.number l.number refl) in
      let one = own (at, l) used in
      let two = own (first, other) there in
      let three = eqb-true other.number k.number same in
      omega (arith, before, one, two, three)

  numbers-rise : AllPairs (λ x y. x < y) (map number_of keys)
  numbers-rise i j d less below =
      let long = length-map keys number_of in
      let (k, at) = place-below keys i (omega (arith, less, below, long)) in
      let rise = keys-rise i j k less (omega (arith, below, long)) in
      let one = get_or-map number_of keys i k d (omega (arith, less, below, long)) in
      let two = get_or-map number_of keys j k d (omega (arith, below, long)) in
      omega (arith, rise, one, two)

  numbers-all : (n : ℕ) → Contains (map number_of keys) n → Contains (map (λ (x : ℕ × Cons). x.0) uses) n
  numbers-all n m =
      let (k, among, e) = contains-map number_of keys n m in
      let (at, used) = All-contains (λ (k : Cons). (at : ℕ) × Contains uses (at, k)) keys k numbered.named among in
      subst (Contains (map (λ (x : ℕ × Cons). x.0) uses)) (own (at, k) used ∙ e) (map-contains (λ (x : ℕ × Cons). x.0) uses (at, k) used)

  all-numbers : (n : ℕ) → Contains (map (λ (x : ℕ × Cons). x.0) uses) n → Contains (map number_of keys) n
  all-numbers n m =
      let (u, used, e) = contains-map (λ (x : ℕ × Cons). x.0) uses n m in
      let (l, among, same) = numbered.all u.0 u.1 used in
      subst (Contains (map number_of keys)) (sym (eqb-true u.1.number l.number same) ∙ sym (own u used) ∙ e) (map-contains number_of keys l among)

  -- the place among the numbers of the text is that among the CONSTITUENTS that are numbered
  pub place-same : (numbers : List ℕ) → IsStrictlyIncreasing numbers → ((n : ℕ) → Contains numbers n ↔ Contains (map (λ (x : ℕ × Cons). x.0) uses) n)
      → (n : ℕ) → place_in (λ m. nat_eq m n) numbers ≡ place_in (λ (k : Cons). nat_eq k.number n) keys
  place-same numbers rises all n =
      let same : numbers ≡ map number_of keys = one-order numbers (map number_of keys) (AllPairs-from_increasing numbers rises) numbers-rise
      (λ m c. all-numbers m ((all m).0 c)) (λ m c. (all m).1 (numbers-all m c)) in
      ap (place_in (λ m. nat_eq m n)) same ∙ of-map keys
    where
      of-map : (ks : List Cons) → place_in (λ m. nat_eq m n) (map number_of ks) ≡ place_in (λ (k : Cons). nat_eq k.number n) ks
      of-map [] = refl
      of-map (k ∷ ks) = ap (λ (p : ℕ). if nat_eq k.number n then 0 else suc p) (of-map ks)

-- each CONSTITUENTS of a text stands with its number
pub own-number : (spec : Spec) (u : ℕ × Cons) → Contains (all_constituents spec) u → u.0 ≡ u.1.number
own-number spec u m = leaves (flat_map leaves_of (computations spec)) m
  where
    one : (e : Expr) (more : List (ℕ × Cons)) → (Contains more u → u.0 ≡ u.1.number) → Contains (cons_option (constituents_of e) more) u → u.0 ≡ u.1.number
    one (Constituents k) more later m = elim (contains-cons (k.number, k) u more m)
        [ inl e ↦ sym (ap (λ (z : ℕ × Cons). z.0) e) ∙ ap (λ (z : ℕ × Cons). z.1.number) e | inr n ↦ later n ]
    one _ more later m = later m

    leaves : (es : List Expr) → Contains (filter_map constituents_of es) u → u.0 ≡ u.1.number
    leaves [] m = absurd (contains-nil u m)
    leaves (e ∷ es) m = one e (filter_map constituents_of es) (leaves es) m
