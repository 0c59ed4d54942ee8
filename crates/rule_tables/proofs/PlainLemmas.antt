-- Plain rules and shapes, one after another.
use Rattle.std.specs.Prelude.{filter, slice_get}
use Rattle.std.specs.List.{AllZip}
use Rattle.std.proofs.Common.{◌≡◌, ℕ, zero, suc, ◌+◌, ◌<◌, ◌≤◌, Bool, true, false, nat_eq, if◌then◌else◌, List, [], ◌∷◌, ◌++◌, length, map, take, get_or, Some, refl, ap, sym, subst, ◌∙◌, arith, zero-add, add-zero, eq-eqb, eqb-true, cond}
use Rattle.std.proofs.lemmas.List.{take_more, length-take-le}
use Rattle.lido_base.specs.declared.ids.StrId.{StrId}
use Rattle.lido_symbols.specs.Numbers.{place_in, enumerated}
use Rattle.lido_symbols.specs.Occurrences.{numbers}
use Rattle.std.proofs.lemmas.Option.{none-some, same_Some}
use Rattle.lido_syntax.specs.declared.spec.Spec.{Spec}
use Rattle.lido_syntax.specs.declared.spec.RuleItem.{RuleItem}
use Rattle.rule_tables.specs.PlainRules.{cell, lists}

pub enumerated-append : {X : Type 0} (k : ℕ) (xs ys : List X) → enumerated k (xs ++ ys) ≡ enumerated k xs ++ enumerated (k + length xs) ys
enumerated-append k [] ys = ap (λ n. enumerated n ys) (sym (add-zero k))
enumerated-append k (x ∷ xs) ys = ap (λ l. (k, x) ∷ l) (enumerated-append (suc k) xs ys ∙ ap (λ n. enumerated (suc k) xs ++ enumerated n ys) (omega arith))

pub zip-append : {A B : Type 0} (R : A → B → Type 0) (xs more : List A) (ys others : List B) → AllZip R xs ys → AllZip R more others → AllZip R (xs ++ more) (ys ++ others)
zip-append R [] more [] others h g = g
zip-append R (x ∷ xs) more (y ∷ ys) others h g = (h.0, zip-append R xs more ys others h.1 g)
zip-append R [] more (y ∷ ys) others h g = absurd h
zip-append R (x ∷ xs) more [] others h g = absurd h

-- one more element with its number
pub enumerated-more : {X : Type 0} (xs : List X) (i : ℕ) (d : X) → i < length xs → enumerated 0 (take (i + 1) xs) ≡ enumerated 0 (take i xs) ++ (i, get_or xs i d) ∷ []
enumerated-more xs i d h =
    ap (enumerated 0) (take_more xs i d h) ∙ enumerated-append 0 (take i xs) (get_or xs i d ∷ [])
    ∙ ap (λ n. enumerated 0 (take i xs) ++ (n, get_or xs i d) ∷ []) (zero-add (length (take i xs)) ∙ length-take-le i xs (omega arith))

pub zip-more : {X B : Type 0} (R : ℕ × X → B → Type 0) (xs : List X) (i : ℕ) (x d : X) (ys : List B) (y : B) → i < length xs → x ≡ get_or xs i d → R (i, x) y → AllZip R (enumerated 0 (take i xs)) ys
    → AllZip R (enumerated 0 (take (i + 1) xs)) (ys ++ y ∷ [])
zip-more {X} R xs i x d ys y h at one before =
    subst (λ l. AllZip R l (ys ++ y ∷ [])) (sym (enumerated-more xs i d h))
    (zip-append R (enumerated 0 (take i xs)) ((i, get_or xs i d) ∷ []) ys (y ∷ []) before (subst (λ v. R (i, v) y) at one, tt))

pub map-numbers : (symbols : List ℕ) (xs : List StrId) → map (λ (name : StrId). place_in (nat_eq name.0) symbols) xs ≡ map (λ s. place_in (nat_eq s) symbols) (numbers xs)
map-numbers symbols [] = refl
map-numbers symbols (x ∷ xs) = ap (λ l. place_in (nat_eq x.0) symbols ∷ l) (map-numbers symbols xs)

pub zip-map : {A C B : Type 0} (R : C → B → Type 0) (f : A → C) (xs : List A) (ys : List B) → AllZip (λ x y. R (f x) y) xs ys → AllZip R (map f xs) ys
zip-map R f [] [] h = h
zip-map R f [] (y ∷ ys) h = absurd h
zip-map R f (x ∷ xs) [] h = absurd h
zip-map R f (x ∷ xs) (y ∷ ys) h = (h.0, zip-map R f xs ys h.1)

abbrev pub is_list : RuleItem → Bool
is_list r = r.list

abbrev is_list_at : ℕ × RuleItem → Bool
is_list_at x = x.1.list

abbrev places : ℕ → List RuleItem → List ℕ
places k rules = map (λ (x : ℕ × RuleItem). x.0) (filter is_list_at (enumerated k rules))

-- how many lists there are among them
abbrev pub list_count : List RuleItem → ℕ
list_count rules = length (filter is_list rules)

pub take_count : (i : ℕ) (rules : List RuleItem) → list_count (take i rules) ≤ list_count rules
take_count zero rules = omega arith
take_count (suc i) [] = omega arith
take_count (suc i) (x ∷ rules) = by x.list (take_count i rules)
  where
    by : (b : Bool) → list_count (take i rules) ≤ list_count rules → length (cond b (x ∷ filter is_list (take i rules)) (filter is_list (take i rules))) ≤ length (cond b (x ∷ filter is_list rules) (filter is_list rules))
    by true h = omega (arith, h)
    by false h = h

-- the place of a list among the lists is how many stand before it
list_place : (k i : ℕ) (rules : List RuleItem) (r : RuleItem) → slice_get rules i ≡ Some r → r.list ≡ true → place_in (nat_eq (k + i)) (places k rules) ≡ list_count (take i rules)
list_place k i [] r e l = absurd (none-some _ e)
list_place k zero (q ∷ rules) r e l = by q.list (ap is_list (same_Some _ _ e) ∙ l)
  where
    by : (b : Bool) → b ≡ true → place_in (nat_eq (k + 0)) (map (λ (x : ℕ × RuleItem). x.0) (cond b ((k, q) ∷ filter is_list_at (enumerated (suc k) rules)) (filter is_list_at (enumerated (suc k) rules)))) ≡ 0
    by true t = ap (λ b. if b then 0 else suc (place_in (nat_eq (k + 0)) (places (suc k) rules))) (eq-eqb (k + 0) k (add-zero k))
    by false t = absurd (cc)
list_place k (suc i) (q ∷ rules) r e l = by q.list (ap (λ n. place_in (nat_eq n) (places (suc k) rules)) shift ∙ list_place (suc k) i rules r e l)
  where
    shift : k + suc i ≡ suc k + i
    shift = omega arith

    differs : (b : Bool) → nat_eq (k + suc i) k ≡ b → b ≡ false
    differs true t = absurd (omega (arith, eqb-true (k + suc i) k t))
    differs false t = refl

    far : nat_eq (k + suc i) k ≡ false
    far = differs (nat_eq (k + suc i) k) refl

    by : (b : Bool) → place_in (nat_eq (k + suc i)) (places (suc k) rules) ≡ list_count (take i rules)
        → place_in (nat_eq (k + suc i)) (map (λ (x : ℕ × RuleItem). x.0) (cond b ((k, q) ∷ filter is_list_at (enumerated (suc k) rules)) (filter is_list_at (enumerated (suc k) rules))))
        ≡ length (cond b (q ∷ filter is_list (take i rules)) (filter is_list (take i rules)))
    by true later = ap (λ b. if b then 0 else suc (place_in (nat_eq (k + suc i)) (places (suc k) rules))) far ∙ ap suc later
    by false later = later

-- the number of a list's cell
pub cell_at : (spec : Spec) (symbols : List ℕ) (i : ℕ) (r : RuleItem) → slice_get spec.rules i ≡ Some r → r.list ≡ true → length symbols + list_count (take i spec.rules) ≡ cell spec symbols i
cell_at spec symbols i r e l = ap (λ n. length symbols + n) (sym (ap (λ n. place_in (nat_eq n) (lists spec symbols)) (sym (zero-add i)) ∙ list_place 0 i spec.rules r e l))
