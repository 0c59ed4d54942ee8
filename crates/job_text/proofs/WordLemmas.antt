-- Words as bytes: looking one up, testing some, and counting along.
use Rattle.std.proofs.Common.{◌≡◌, ℕ, zero, suc, ◌+◌, Bool, true, false, ◌||◌, cond, List, [], ◌∷◌, ◌++◌, take, map, Some, None, option_map, filter, find, slice_get, ap, sym, ◌∙◌, refl, subst, arith, add-one, inl, inr, append-nil, append_assoc}
use Rattle.std.specs.List.{list_any, enumerate_from}
use Rattle.std.proofs.lemmas.Bool.{cases_Bool}
use Rattle.std.proofs.lemmas.Option.{same_Some}
use Rattle.job_text.specs.declared.forms.Form.{Form}
use Rattle.job_text.specs.declared.forms.Form.TheVariants.{Split}
use Rattle.job_text.specs.Forms.{has_form, number_of}
use Rattle.job_text.specs.CommandLine.{number_or, splits}

pub list_any_of_map : {X Y : Type 0} (p : Y → Bool) (h : X → Y) (xs : List X) → list_any p (map h xs) ≡ list_any (λ x. p (h x)) xs
list_any_of_map p h [] = refl
list_any_of_map p h (x ∷ xs) = ap (λ b. p (h x) || b) (list_any_of_map p h xs)

pub find_of_map : {X Y : Type 0} (p : Y → Bool) (h : X → Y) (xs : List X) → find p (map h xs) ≡ option_map h (find (λ x. p (h x)) xs)
find_of_map p h [] = refl
find_of_map p h (x ∷ xs) = elim (p (h x)) as (λ b. cond b (Some (h x)) (find p (map h xs)) ≡ option_map h (cond b (Some x) (find (λ y. p (h y)) xs))) [ true ↦ refl | false ↦ find_of_map p h xs ]

-- what is found passes
pub find_passes : {X : Type 0} (p : X → Bool) (xs : List X) (x : X) → find p xs ≡ Some x → p x ≡ true
find_passes p [] x h = cc
find_passes p (y ∷ ys) x h =
    elim (cases_Bool (p y)) [
      | inl t ↦ let e : y ≡ x = same_Some y x (rw t at h) in subst (λ z. p z ≡ true) e t
      | inr f ↦ find_passes p ys x (rw f at h)
    ]

-- the indices of the words that pass, from n on
places : (List ℕ → Bool) → ℕ → List (List ℕ) → List ℕ
places p n ws = map (λ (x : ℕ × List ℕ). x.0) (filter (λ (x : ℕ × List ℕ). p x.1) (enumerate_from n ws))

place_here : (n m : ℕ) (v : List ℕ) (b : Bool) (rest : List (ℕ × List ℕ)) → n ≡ m
    → map (λ (x : ℕ × List ℕ). x.0) (cond b ((n, v) ∷ rest) rest) ≡ cond b (m ∷ []) [] ++ map (λ (x : ℕ × List ℕ). x.0) rest
place_here n m v true rest e = ap (λ k. k ∷ map (λ (x : ℕ × List ℕ). x.0) rest) e
place_here n m v false rest e = refl

places_more : (p : List ℕ → Bool) (n : ℕ) (ws : List (List ℕ)) (i : ℕ) (w : List ℕ) → slice_get ws i ≡ Some w
    → places p n (take (suc i) ws) ≡ places p n (take i ws) ++ cond (p w) ((n + i) ∷ []) []
unfolding places
places_more p n [] i w h = cc
places_more p n (v ∷ ws) zero w h =
    let e : v ≡ w = same_Some v w h in
    place_here n (n + 0) v (p v) [] (omega arith) ∙ append-nil (cond (p v) ((n + 0) ∷ []) []) ∙ ap (λ z. cond (p z) ((n + 0) ∷ []) []) e
places_more p n (v ∷ ws) (suc i) w h =
    place_here n n v (p v) (filter (λ (x : ℕ × List ℕ). p x.1) (enumerate_from (n + 1) (take (suc i) ws))) refl
    ∙ ap (λ z. cond (p v) (n ∷ []) [] ++ z) (places_more p (n + 1) ws i w h)
    ∙ sym (append_assoc (cond (p v) (n ∷ []) []) (places p (n + 1) (take i ws)) (cond (p w) ((n + 1 + i) ∷ []) []))
    ∙ ap (λ z. z ++ cond (p w) ((n + 1 + i) ∷ []) []) (sym (place_here n n v (p v) (filter (λ (x : ℕ × List ℕ). p x.1) (enumerate_from (n + 1) (take i ws))) refl))
    ∙ (let e : n + 1 + i ≡ n + suc i = omega arith in ap (λ k. places p n (v ∷ take i ws) ++ cond (p w) (k ∷ []) []) e)

-- one more word
pub splits_more : (ws : List (List ℕ)) (i : ℕ) (w : List ℕ) → slice_get ws i ≡ Some w → splits (take (i + 1) ws) ≡ splits (take i ws) ++ cond (has_form Split w) (i ∷ []) []
unfolding places splits
splits_more ws i w h = rw add-one (let e : 0 + i ≡ i = omega arith in subst (λ k. splits (take (suc i) ws) ≡ splits (take i ws) ++ cond (has_form Split w) (k ∷ []) []) e (places_more (has_form Split) 0 ws i w h))

-- the first word of a form, seen as bytes
pub found_bytes : {X : Type 0} (form : Form) (bytes : X → List ℕ) (xs : List X) (x : X) → find (λ y. has_form form (bytes y)) xs ≡ Some x → find (has_form form) (map bytes xs) ≡ Some (bytes x)
found_bytes form bytes xs x h = find_of_map (has_form form) bytes xs ∙ ap (option_map bytes) h

pub absent_bytes : {X : Type 0} (form : Form) (bytes : X → List ℕ) (xs : List X) → find (λ y. has_form form (bytes y)) xs ≡ None → find (has_form form) (map bytes xs) ≡ None
absent_bytes form bytes xs h = find_of_map (has_form form) bytes xs ∙ ap (option_map bytes) h

pub number_found : (default : ℕ) (form : Form) (ws : List (List ℕ)) (w : List ℕ) → find (has_form form) ws ≡ Some w → number_of form w ≡ number_or default form ws
unfolding number_or
number_found default form ws w h = rw h refl

pub number_absent : (default : ℕ) (form : Form) (ws : List (List ℕ)) → find (has_form form) ws ≡ None → default ≡ number_or default form ws
unfolding number_or
number_absent default form ws h = rw h refl
