-- The different numbers of a list that grows at its end.
use Rattle.std.specs.Prelude.{filter, not, nat_eq, ◌||◌}
use Rattle.std.proofs.Common.{◌≡◌, ℕ, ◌+◌, ◌<◌, Bool, true, false, if◌then◌else◌, List, [], ◌∷◌, ◌++◌, length, map, take, get_or, refl, ap, sym, ◌∙◌, append-nil, eqb-true, eq-eqb}
use Rattle.std.proofs.lemmas.List.{take_more, map-append}
use Rattle.std.proofs.lemmas.List.Elements.{filter-append}
use Rattle.indexmap.specs.IndexSet.{insert_key}
use Rattle.lido_base.specs.Tree.{contains}
use Rattle.lido_symbols.specs.Numbers.{different}

-- a number that differs from x is among those that do exactly if it is among all
contains-filter : (x k : ℕ) → nat_eq k x ≡ false → (ys : List ℕ) → contains k (filter (λ y. not (nat_eq x y)) ys) ≡ contains k ys
contains-filter x k far [] = refl
contains-filter x k far (y ∷ ys) = by (contains-filter x k far ys) (nat_eq x y) refl (nat_eq k y) refl
  where
    by : contains k (filter (λ z. not (nat_eq x z)) ys) ≡ contains k ys → (b : Bool) → nat_eq x y ≡ b → (e : Bool) → nat_eq k y ≡ e
        → contains k (if not b then y ∷ filter (λ z. not (nat_eq x z)) ys else filter (λ z. not (nat_eq x z)) ys) ≡ (nat_eq k y || contains k ys)
    by later false f e g = ap (λ r. nat_eq k y || r) later
    by later true f true g = absurd (let same : k ≡ x = eqb-true k y g ∙ sym (eqb-true x y f) in let h = eq-eqb k x same in cc)
    by later true f false g = later ∙ ap (λ b. b || contains k ys) (sym g)

abbrev without : ℕ → List ℕ → List ℕ
without x = filter (λ y. not (nat_eq x y))

-- one more number
pub different-more : (xs : List ℕ) (k : ℕ) → different (xs ++ k ∷ []) ≡ (if contains k (different xs) then different xs else (different xs ++ k ∷ []))
different-more [] k = refl
different-more (x ∷ xs) k = ap (λ l. x ∷ without x l) (different-more xs k) ∙ by (nat_eq k x) refl (contains k (different xs)) refl
  where
    joined : without x (different xs ++ k ∷ []) ≡ without x (different xs) ++ without x (k ∷ [])
    joined = filter-append (λ y. not (nat_eq x y)) (different xs) (k ∷ [])

    alone : (b : Bool) → nat_eq x k ≡ b → without x (k ∷ []) ≡ (if b then [] else k ∷ [])
    alone b f = ap (λ e. if not e then k ∷ [] else []) f ∙ turned b
      where
        turned : (e : Bool) → (if not e then k ∷ [] else []) ≡ (if e then [] else k ∷ [])
        turned true = refl
        turned false = refl

    flipped : (b : Bool) → nat_eq k x ≡ b → nat_eq x k ≡ b
    flipped true f = eq-eqb x k (sym (eqb-true k x f))
    flipped false f = other (nat_eq x k) refl
      where
        other : (b : Bool) → nat_eq x k ≡ b → nat_eq x k ≡ false
        other true g = absurd (let h = eq-eqb k x (sym (eqb-true x k g)) in cc)
        other false g = g

    same : nat_eq k x ≡ false → contains k (without x (different xs)) ≡ contains k (different xs)
    same far = contains-filter x k far (different xs)

    by : (b : Bool) → nat_eq k x ≡ b → (e : Bool) → contains k (different xs) ≡ e
        → x ∷ without x (if e then different xs else (different xs ++ k ∷ [])) ≡ (if (b || contains k (without x (different xs))) then x ∷ without x (different xs) else (x ∷ (without x (different xs) ++ k ∷ [])))
    by true f true g = refl
    by true f false g = ap (λ l. x ∷ l) (joined ∙ ap (λ l. without x (different xs) ++ l) (alone true (flipped true f)) ∙ append-nil (without x (different xs)))
    by false f true g = ap (λ b. if b then x ∷ without x (different xs) else (x ∷ (without x (different xs) ++ k ∷ []))) (sym (same f ∙ g))
    by false f false g = ap (λ l. x ∷ l) (joined ∙ ap (λ l. without x (different xs) ++ l) (alone false (flipped false f)))
        ∙ ap (λ b. if b then x ∷ without x (different xs) else (x ∷ (without x (different xs) ++ k ∷ []))) (sym (same f ∙ g))

-- the number of the next element is added unless it is there
pub different-step : {X : Type 0} (f : X → ℕ) (xs : List X) (i : ℕ) (x d : X) (old new : List ℕ) → i < length xs → x ≡ get_or xs i d → old ≡ different (map f (take i xs)) → new ≡ insert_key nat_eq old (f x)
    → new ≡ different (map f (take (i + 1) xs))
different-step {X} f xs i x d old new h at before added =
    added ∙ ap (λ l. insert_key nat_eq l (f x)) before ∙ sym (different-more (map f (take i xs)) (f x))
    ∙ ap different (ap (λ (y : X). map f (take i xs) ++ f y ∷ []) at ∙ sym (map-append f (take i xs) (get_or xs i d ∷ [])) ∙ ap (map f) (sym (take_more xs i d h)))
