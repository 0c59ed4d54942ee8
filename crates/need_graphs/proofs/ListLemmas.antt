-- What stands in lists that are made of others.
use Rattle.std.specs.Prelude.{IsTrue, Contains, slice_get, filter_map, flat_map, option_to_list, ◌↔◌, nat_eq, ◌||◌}
use Rattle.std.specs.List.{cons_option}
use Rattle.std.proofs.Common.{◌≡◌, ℕ, zero, suc, ◌+◌, ◌-◌, ◌<◌, ◌⊎◌, inl, inr, Bool, true, false, List, [], ◌∷◌, ◌++◌, length, take, Option, Some, None, refl, sym, ap, subst, ◌∙◌, arith, eqb-true, eq-eqb, get_or, append_assoc, append-nil}
use Rattle.std.proofs.lemmas.Grind.{flat_map-append}
use Rattle.std.proofs.lemmas.List.{take_more}
use Rattle.std.proofs.lemmas.List.Elements.{filter_map-append, Contains-append_left, Contains-push, Contains-push_cases}
use Rattle.lido_base.proofs.Lists.{contains-nil, contains-cons, contains-here, contains-later}
use Rattle.lido_symbols.specs.Numbers.{enumerated}
use Rattle.rule_tables.proofs.PlainLemmas.{enumerated-more}

-- two tests that pass together are the same
pub same-bool : (a b : Bool) → (IsTrue a → IsTrue b) → (IsTrue b → IsTrue a) → a ≡ b
same-bool true true f g = refl
same-bool false false f g = refl
same-bool true false f g = absurd (let h : IsTrue false = f refl in cc)
same-bool false true f g = absurd (let h : IsTrue false = g refl in cc)

pub or-cases : (a b : Bool) → IsTrue (a || b) → IsTrue a ⊎ IsTrue b
or-cases true b h = inl refl
or-cases false b h = inr h

pub or-left : (a b : Bool) → IsTrue a → IsTrue (a || b)
or-left true b h = refl
or-left false b h = absurd (cc)

pub or-right : (a b : Bool) → IsTrue b → IsTrue (a || b)
or-right true b h = refl
or-right false b h = h

pub contains-filtered : {X Y : Type 0} (h : X → Option Y) (xs : List X) (y : Y) → Contains (filter_map h xs) y → (x : X) × Contains xs x × (h x ≡ Some y)
contains-filtered h [] y m = absurd (contains-nil y m)
contains-filtered {X} {Y} h (x ∷ xs) y m = by (h x) refl m (contains-filtered h xs y)
  where
    by : (o : Option Y) → h x ≡ o → Contains (cons_option o (filter_map h xs)) y → (Contains (filter_map h xs) y → (z : X) × Contains xs z × (h z ≡ Some y)) → (z : X) × Contains (x ∷ xs) z × (h z ≡ Some y)
    by None e m later = let (z, among, f) = later m in (z, contains-later x z xs among, f)
    by (Some v) e m later = kept (contains-cons v y (filter_map h xs) m)
      where
        kept : (v ≡ y) ⊎ Contains (filter_map h xs) y → (z : X) × Contains (x ∷ xs) z × (h z ≡ Some y)
        kept (inl s) = (x, contains-here x xs, e ∙ ap Some s)
        kept (inr n) = let (z, among, f) = later n in (z, contains-later x z xs among, f)

pub filtered-contains : {X Y : Type 0} (h : X → Option Y) (xs : List X) (x : X) (y : Y) → Contains xs x → h x ≡ Some y → Contains (filter_map h xs) y
filtered-contains h [] x y m e = absurd (contains-nil x m)
filtered-contains {X} {Y} h (z ∷ xs) x y m e = by (contains-cons z x xs m) (h z) refl (λ k. filtered-contains h xs x y k e)
  where
    by : (z ≡ x) ⊎ Contains xs x → (o : Option Y) → h z ≡ o → (Contains xs x → Contains (filter_map h xs) y) → Contains (cons_option o (filter_map h xs)) y
    by (inl s) o f later = subst (λ o. Contains (cons_option o (filter_map h xs)) y) (sym (sym f ∙ ap h s ∙ e)) (contains-here y (filter_map h xs))
    by (inr k) None f later = later k
    by (inr k) (Some v) f later = contains-later v y (filter_map h xs) (later k)

-- an item with its number stands at that place
pub enumerated-place : {X : Type 0} (k i : ℕ) (x : X) (xs : List X) → Contains (enumerated k xs) (i, x) → (j : ℕ) × (i ≡ k + j) × (slice_get xs j ≡ Some x)
enumerated-place k i x [] m = absurd (contains-nil _ m)
enumerated-place k i x (y ∷ ys) m = elim (contains-cons (k, y) (i, x) (enumerated (suc k) ys) m) [
  | inl h ↦ (0, (let e : k ≡ i = ap (λ z. z.0) h in omega (arith, e)), ap (λ z. Some z.1) h)
  | inr n ↦ let p = enumerated-place (suc k) i x ys n in (suc p.0, (let e = p.1 in omega (arith, e)), p.2)
]

-- a set that holds one number more
pub one-more : (old new : ℕ → Bool) (xs : List ℕ) (k x : ℕ) → take (k + 1) xs ≡ take k xs ++ x ∷ [] → ((n : ℕ) → new n ≡ (nat_eq x n || old n))
    → ((n : ℕ) → IsTrue (old n) ↔ Contains (take k xs) n) → (n : ℕ) → IsTrue (new n) ↔ Contains (take (k + 1) xs) n
one-more old new xs k x more is before n = (
  (λ h. subst (λ l. Contains l n) (sym more) (elim (or-cases (nat_eq x n) (old n) (sym (is n) ∙ h)) [
    | inl same ↦ subst (λ z. Contains (take k xs ++ x ∷ []) z) (eqb-true x n same) (Contains-push (take k xs) x)
    | inr o ↦ Contains-append_left (take k xs) (x ∷ []) n ((before n).0 o)
  ])),
  (λ m. is n ∙ elim (Contains-push_cases (take k xs) x n (subst (λ l. Contains l n) more m)) [
    | inl o ↦ or-right (nat_eq x n) (old n) ((before n).1 o)
    | inr same ↦ or-left (nat_eq x n) (old n) (eq-eqb x n same)
  ]),
)

-- the item behind the first one
pub behind-first : {X : Type 0} (x : X) (xs : List X) (k : ℕ) → (k ≡ 0 → ⊥) → slice_get (x ∷ xs) k ≡ slice_get xs (k - 1)
behind-first x xs zero n = absurd (n refl)
behind-first x xs (suc k) n = let e : k ≡ suc k - 1 = omega arith in ap (slice_get xs) e

-- what one item more adds behind others
pub numbered-more : {X Y : Type 0} (g : ℕ × X → List Y) (xs : List X) (k : ℕ) (d : X) (front old new more : List Y) → k < length xs
    → old ≡ front ++ flat_map g (enumerated 0 (take k xs)) → new ≡ old ++ more → more ≡ g (k, get_or xs k d) → new ≡ front ++ flat_map g (enumerated 0 (take (k + 1) xs))
numbered-more g xs k d front old new more within before after made =
    let x = get_or xs k d in
    let so_far = flat_map g (enumerated 0 (take k xs)) in
    let next : flat_map g (enumerated 0 (take (k + 1) xs)) ≡ so_far ++ g (k, x) =
    ap (flat_map g) (enumerated-more xs k d within) ∙ flat_map-append g (enumerated 0 (take k xs)) ((k, x) ∷ []) ∙ ap (λ l. so_far ++ l) (append-nil (g (k, x))) in
    after ∙ (λ i. before i ++ made i) ∙ append_assoc front so_far (g (k, x)) ∙ ap (λ l. front ++ l) (sym next)

filter_map-one : {X Y : Type 0} (h : X → Option Y) (x : X) (o : Option Y) → h x ≡ o → filter_map h (x ∷ []) ≡ option_to_list o
filter_map-one h x None e = rw e refl
filter_map-one h x (Some y) e = rw e refl

-- what is made of one item more
pub filtered-next : {X Y : Type 0} (h : X → Option Y) (xs : List X) (i : ℕ) (d : X) (o : Option Y) (front old new : List Y) → i < length xs → h (get_or xs i d) ≡ o
    → old ≡ front ++ filter_map h (take i xs) → new ≡ old ++ option_to_list o → new ≡ front ++ filter_map h (take (i + 1) xs)
filtered-next h xs i d o front old new within made before after =
    let next = ap (filter_map h) (take_more xs i d within) ∙ filter_map-append h (take i xs) (get_or xs i d ∷ []) ∙ ap (λ r. filter_map h (take i xs) ++ r) (filter_map-one h (get_or xs i d) o made) in
    after ∙ ap (λ l. l ++ option_to_list o) before ∙ append_assoc front (filter_map h (take i xs)) (option_to_list o) ∙ ap (λ l. front ++ l) (sym next)

pub numbered-next : {X Y : Type 0} (h : ℕ × X → Option Y) (xs : List X) (k : ℕ) (d : X) (o : Option Y) (front old new : List Y) → k < length xs → h (k, get_or xs k d) ≡ o
    → old ≡ front ++ filter_map h (enumerated 0 (take k xs)) → new ≡ old ++ option_to_list o → new ≡ front ++ filter_map h (enumerated 0 (take (k + 1) xs))
numbered-next h xs k d o front old new within made before after =
    let x = get_or xs k d in
    let so_far = filter_map h (enumerated 0 (take k xs)) in
    let next : filter_map h (enumerated 0 (take (k + 1) xs)) ≡ so_far ++ option_to_list o =
    ap (filter_map h) (enumerated-more xs k d within) ∙ filter_map-append h (enumerated 0 (take k xs)) ((k, x) ∷ []) ∙ ap (λ l. so_far ++ l) (filter_map-one h (k, x) o made) in
    after ∙ ap (λ l. l ++ option_to_list o) before ∙ append_assoc front so_far (option_to_list o) ∙ ap (λ l. front ++ l) (sym next)
