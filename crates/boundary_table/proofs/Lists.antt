-- Facts on sets of numbers, the words of a table, the views of its seats, and the codes of its contents.
use Rattle.std.proofs.Common.{◌≡◌, ◌≢◌, ℕ, zero, suc, ◌+◌, ◌*◌, ◌/◌, ◌<◌, ◌||◌, eqb, Bool, true, false, List, [], ◌∷◌, ◌++◌, get_or, set, length, sym, refl, ap, ◌∙◌, subst, inl, inr, ◌⊎◌, ⊎_elim, arith, eq-eqb, ne_eqb, Some, slice_get, All, slice_index}
use mathlib.Core.Logic.{dite}
use native.Mathlib.Decide.{ℕ_discrete}
use mathlib.Core.Option.{some}
use lib.ListN.{get_elem?}
use Rattle.atomic_table.proofs.Lists.{at_set, at_snoc}
use Rattle.lido_base.specs.declared.value.Value.{Value}
use Rattle.lido_base.specs.declared.value.Value.TheVariants.{Int, Bool as Truth, Str, Text, Void, Bad}
use Rattle.lido_base.specs.Ranges.{IsInRange}
use Rattle.boundary_table.specs.Codes.{first_word, second_word, code}
use Rattle.boundary_table.specs.Rule.{mem, owner}

-- a word that is stored as it was changes nothing
pub set_same : (l : List ℕ) (i : ℕ) → set l i (get_or l i 0) ≡ l
set_same [] i = refl
set_same (x ∷ xs) zero = refl
set_same (x ∷ xs) (suc i) = ap (λ (l : List ℕ). x ∷ l) (set_same xs i)

-- what holds of each view holds after one was changed to such a one, or one was added
pub each_set : {V : Type 0} (P : V → Type 0) (views : List V) (id : ℕ) (u : V) → P u → ((j : ℕ) (v : V) → get_elem? views j ≡ some v → P v)
    → (j : ℕ) (v : V) → get_elem? (set views id u) j ≡ some v → P v
each_set P views id u good all j v at = ⊎_elim (λ t. subst P t.1 good) (λ t. all j v t.1) (at_set views id j u v at)

pub each_snoc : {V : Type 0} (P : V → Type 0) (views : List V) (u : V) → P u → ((j : ℕ) (v : V) → get_elem? views j ≡ some v → P v)
    → (j : ℕ) (v : V) → get_elem? (views ++ u ∷ []) j ≡ some v → P v
each_snoc P views u good all j v at = ⊎_elim (λ t. all j v t) (λ t. subst P t good) (at_snoc views u v j at)

-- a word is among w and ws only if it is w or among ws
pub mem_cases : (w x : ℕ) (ws : List ℕ) → mem x (w ∷ ws) ≡ true → (w ≡ x) ⊎ (mem x ws ≡ true)
mem_cases w x ws h = dite (ℕ_discrete w x) (λ e. inl e) (λ ne. inr (sym (ap (λ b. b || mem x ws) (ne_eqb w x ne)) ∙ h))

or_true : (b : Bool) → (b || true) ≡ true
or_true true = refl
or_true false = refl

pub mem_more : (w x : ℕ) (ws : List ℕ) → mem x ws ≡ true → mem x (w ∷ ws) ≡ true
mem_more w x ws h = ap (λ b. eqb w x || b) h ∙ or_true (eqb w x)

pub mem_here : (w : ℕ) (ws : List ℕ) → mem w (w ∷ ws) ≡ true
mem_here w ws = ap (λ b. b || mem w ws) (eq-eqb w w refl)

-- a word is among the words of two lists only if it is in one of them
pub mem_both : (x : ℕ) (xs ys : List ℕ) → mem x (xs ++ ys) ≡ true → (mem x xs ≡ true) ⊎ (mem x ys ≡ true)
mem_both x [] ys h = inr h
mem_both x (z ∷ zs) ys h = ⊎_elim
    (λ e. inl (let P : ℕ → Type 0 = λ y. mem y (z ∷ zs) ≡ true in subst P e (mem_here z zs)))
    (λ more. ⊎_elim (λ here. inl (mem_more z x zs here)) (λ there. inr there) (mem_both x zs ys more))
    (mem_cases z x (zs ++ ys) h)

pub mem_left : (x : ℕ) (xs ys : List ℕ) → mem x xs ≡ true → mem x (xs ++ ys) ≡ true
mem_left x [] ys h = absurd (cc)
mem_left x (z ∷ zs) ys h = ⊎_elim
    (λ e. let P : ℕ → Type 0 = λ y. mem y (z ∷ (zs ++ ys)) ≡ true in subst P e (mem_here z (zs ++ ys)))
    (λ more. mem_more z x (zs ++ ys) (mem_left x zs ys more))
    (mem_cases z x zs h)

pub mem_right : (x : ℕ) (xs ys : List ℕ) → mem x ys ≡ true → mem x (xs ++ ys) ≡ true
mem_right x [] ys h = h
mem_right x (z ∷ zs) ys h = mem_more z x (zs ++ ys) (mem_right x zs ys h)

-- the words of a key are those of its value
pub code_first : (contents : List Value) (k : ℕ) (v : Value) → slice_get contents k ≡ Some v → code contents (2 * k) ≡ first_word v
code_first [] k v h = absurd (cc)
code_first (x ∷ xs) zero v h = let e : x ≡ v = cc in ap first_word e
code_first (x ∷ xs) (suc k) v h = let e : 2 * suc k ≡ suc (suc (2 * k)) = omega arith in rw e (code_first xs k v h)

pub code_second : (contents : List Value) (k : ℕ) (v : Value) → slice_get contents k ≡ Some v → code contents (2 * k + 1) ≡ second_word v
code_second [] k v h = absurd (cc)
code_second (x ∷ xs) zero v h = let e : x ≡ v = cc in ap second_word e
code_second (x ∷ xs) (suc k) v h = let e : 2 * suc k + 1 ≡ suc (suc (2 * k + 1)) = omega arith in rw e (code_second xs k v h)

pub some_below : (contents : List Value) (k : ℕ) (v : Value) → slice_get contents k ≡ Some v → k < length contents
some_below [] k v h = absurd (cc)
some_below (x ∷ xs) zero v h = omega arith
some_below (x ∷ xs) (suc k) v h = omega (arith, some_below xs k v h)

-- neither word of a value is 0
first_set : (v : Value) → 0 < first_word v
first_set (Int z) = omega arith
first_set (Truth b) = omega arith
first_set (Str s) = omega arith
first_set (Text t) = omega arith
first_set Void = omega arith
first_set (Bad o) = omega arith

second_set : (v : Value) → 0 < second_word v
second_set (Int z) = omega arith
second_set (Truth b) = omega arith
second_set (Str s) = omega arith
second_set (Text t) = omega arith
second_set Void = omega arith
second_set (Bad o) = omega arith

pub code_nonzero : (contents : List Value) (w : ℕ) → w < 2 * length contents → code contents w ≢ 0
code_nonzero [] w room = absurd (omega arith)
code_nonzero (v ∷ vs) zero room = λ e. let set = first_set v in omega arith
code_nonzero (v ∷ vs) (suc zero) room = λ e. let set = second_set v in omega arith
code_nonzero (v ∷ vs) (suc (suc w)) room = code_nonzero vs w (omega arith)

-- a key has a value, which is in range
pub value_at : (contents : List Value) (k : ℕ) → k < length contents → All IsInRange contents → (v : Value) × (slice_get contents k ≡ Some v) × IsInRange v
value_at [] k room all = absurd (omega arith)
value_at (x ∷ xs) zero room all = (x, refl, all 0 x (omega arith))
value_at (x ∷ xs) (suc k) room all = value_at xs k (omega arith) (λ j d h. all (suc j) d (omega arith))

-- both words of a key have its owner
pub owner_first : (owners : List ℕ) (k : ℕ) → owner owners (2 * k) ≡ slice_index owners k
owner_first owners k = let e : 2 * k / 2 ≡ k = omega arith in ap (λ i. slice_index owners i) e

pub owner_second : (owners : List ℕ) (k : ℕ) → owner owners (2 * k + 1) ≡ slice_index owners k
owner_second owners k = let e : (2 * k + 1) / 2 ≡ k = omega arith in ap (λ i. slice_index owners i) e
