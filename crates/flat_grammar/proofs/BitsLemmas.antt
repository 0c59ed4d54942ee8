-- Sets of numbers as the bits of words, and as those of two words: union, inclusion, order, the least number.
use Rattle.std.specs.Prelude.{IsBitSet, bit_or, bit_and, min, max, ◌^◌, ◌*◌, ◌-◌}
use Rattle.std.specs.Int.{bit_at, trailing_zeros, w128}
use Rattle.std.proofs.Common.{◌≡◌, ℕ, zero, suc, ◌+◌, ◌<◌, ◌≤◌, ◌⊎◌, inl, inr, refl, sym, ap, subst, ◌∙◌, arith, ◌↔◌}
use Rattle.std.proofs.lemmas.Bool.{cases_lt}
use lib.Pow.{pow_pos}
use Rattle.std.proofs.lemmas.Nat.{le_or_l, and_le_l}
use Rattle.std.proofs.lemmas.Nat.Bits.{bit_at_or, bit_at-lt, bit_at_above, and_pow, same_from_bits, bit_at_cat_low, bit_at_cat_high, bit_at_and, bit_at_not, bit_at-trailing_zeros}
use Rattle.flat_grammar.specs.Halves.{number_of}

bit-cases : (n k : ℕ) → (bit_at n k ≡ 0) ⊎ (bit_at n k ≡ 1)
bit-cases n k = go (bit_at n k) (bit_at-lt n k)
  where
    go : (b : ℕ) → b < 2 → (b ≡ 0) ⊎ (b ≡ 1)
    go zero h = inl refl
    go (suc zero) h = inr refl
    go (suc (suc b)) h = absurd (omega arith)

one-of : (n k : ℕ) → IsBitSet n k → bit_at n k ≡ 1
one-of n k h = elim (bit-cases n k) [ inl e ↦ absurd (h (and_pow n k ∙ ap (λ b. b * 2 ^ k) e ∙ omega arith)) | inr e ↦ e ]

pub set-of : (n k : ℕ) → bit_at n k ≡ 1 → IsBitSet n k
set-of n k e none = let product : 1 * 2 ^ k ≡ 0 = ap (λ b. b * 2 ^ k) (sym e) ∙ sym (and_pow n k) ∙ none in let p = pow_pos k in omega arith

-- whether the set has the number
pub is-set : (n k : ℕ) → IsBitSet n k ⊎ (IsBitSet n k → ⊥)
is-set n k = elim (bit-cases n k) [ inl e ↦ inr (λ h. let one = one-of n k h in absurd (omega arith)) | inr e ↦ inl (set-of n k e) ]

pub in-left : (a b j : ℕ) → IsBitSet a j → IsBitSet (bit_or a b) j
in-left a b j h = set-of (bit_or a b) j (bit_at_or a b j ∙ (let one = one-of a j h in let low = bit_at-lt b j in omega arith))

pub in-right : (a b j : ℕ) → IsBitSet b j → IsBitSet (bit_or a b) j
in-right a b j h = set-of (bit_or a b) j (bit_at_or a b j ∙ (let one = one-of b j h in let low = bit_at-lt a j in omega arith))

pub in-one : (a b j : ℕ) → IsBitSet (bit_or a b) j → IsBitSet a j ⊎ IsBitSet b j
in-one a b j h = elim (bit-cases a j) [ inr e ↦ inl (set-of a j e) | inl e ↦ inr (set-of b j (let one = sym (bit_at_or a b j) ∙ one-of (bit_or a b) j h in let low = bit_at-lt b j in omega arith)) ]

-- the union with a part of a set is the set
pub union-within : (a b : ℕ) → ((j : ℕ) → IsBitSet a j → IsBitSet b j) → bit_or a b ≡ b
union-within a b within = same_from_bits (bit_or a b) b (λ j. bit_at_or a b j ∙ at j)
  where
    at : (j : ℕ) → max (bit_at a j) (bit_at b j) ≡ bit_at b j
    at j = elim (bit-cases a j) [ inl e ↦ omega arith | inr e ↦ let one = one-of b j (within j (set-of a j e)) in omega arith ]

pub within-union : (a b : ℕ) → bit_or a b ≡ b → (j : ℕ) → IsBitSet a j → IsBitSet b j
within-union a b e j h = subst (λ n. IsBitSet n j) e (in-left a b j h)

-- a part of a set is no greater number
pub within-le : (a b : ℕ) → ((j : ℕ) → IsBitSet a j → IsBitSet b j) → a ≤ b
within-le a b within = subst (λ n. a ≤ n) (union-within a b within) (le_or_l a b)

pub empty-set : (j : ℕ) → IsBitSet 0 j → ⊥
empty-set j h = let one = one-of 0 j h in absurd (omega arith)

-- a number below 2 ^ m has no bit from m on
pub not-above : (n m k : ℕ) → n < 2 ^ m → m ≤ k → IsBitSet n k → ⊥
not-above n m k small above h = let one = one-of n k h in let none = bit_at_above n m k small above in absurd (omega arith)

-- ---- equivalences

pub iff_then : {A B C : Type 0} → A ↔ B → B ↔ C → A ↔ C
iff_then f g = (λ a. g.0 (f.0 a), λ c. f.1 (g.1 c))

pub iff_or : {A B C D : Type 0} → A ↔ B → C ↔ D → (A ⊎ C) ↔ (B ⊎ D)
iff_or f g = (λ either. elim either [ inl a ↦ inl (f.0 a) | inr c ↦ inr (g.0 c) ], λ either. elim either [ inl b ↦ inl (f.1 b) | inr d ↦ inr (g.1 d) ])

pub iff_without : {A B C D : Type 0} → A ↔ B → C ↔ D → (A × (C → ⊥)) ↔ (B × (D → ⊥))
iff_without f g = (λ p. (f.0 p.0, λ d. p.1 (g.1 d)), λ p. (f.1 p.0, λ c. p.1 (g.0 c)))

-- ---- numbers of two words

same_bit : (m j n k : ℕ) → bit_at m j ≡ bit_at n k → IsBitSet m j ↔ IsBitSet n k
same_bit m j n k same = (λ h. set-of n k (sym same ∙ one-of m j h), λ h. set-of m j (same ∙ one-of n k h))

-- the bits of the low word
pub low_bits : (n low high k : ℕ) → number_of low high ≡ n → k < 128 → IsBitSet low k ↔ IsBitSet n k
low_bits n low high k is below = same_bit low k n k (sym (bit_at_cat_low high 128 low k below) ∙ ap (λ m. bit_at m k) is)

-- the bits of the high word
pub high_bits : (n low high k : ℕ) → number_of low high ≡ n → low < 2 ^ 128 → 128 ≤ k → IsBitSet high (k - 128) ↔ IsBitSet n k
high_bits n low high k is small above = same_bit high (k - 128) n k (sym (bit_at_cat_high high 128 low k small above) ∙ ap (λ m. bit_at m k) is)

-- the same by the place counted in the high word
pub high_bit : (n low high k : ℕ) → number_of low high ≡ n → low < 2 ^ 128 → IsBitSet high k ↔ IsBitSet n (128 + k)
high_bit n low high k is small = let e : 128 + k - 128 ≡ k = omega arith in subst (λ m. IsBitSet high m ↔ IsBitSet n (128 + k)) e (high_bits n low high (128 + k) is small (omega arith))

-- what holds of the bits of both words holds of those of the number
pub by_halves : (low high : ℕ) (P : ℕ → Type 0) → low < 2 ^ 128 → ((j : ℕ) → j < 128 → IsBitSet low j ↔ P j) → ((j : ℕ) → 128 ≤ j → IsBitSet high (j - 128) ↔ P j)
    → (j : ℕ) → IsBitSet (number_of low high) j ↔ P j
by_halves low high P small at_low at_high j = elim (cases_lt j 128) [
  | inl below ↦ (let e = low_bits (number_of low high) low high j refl below in let f = at_low j below in (λ h. f.0 (e.1 h), λ p. e.0 (f.1 p)))
  | inr above ↦ (let e = high_bits (number_of low high) low high j refl small above in let f = at_high j above in (λ h. f.0 (e.1 h), λ p. e.0 (f.1 p)))
]

-- a number more
pub more_low : (n low high new k : ℕ) → number_of low high ≡ n → low < 2 ^ 128 → new < 2 ^ 128 → k < 128 → ((j : ℕ) → IsBitSet new j ↔ ((j ≡ k) ⊎ IsBitSet low j)) → (j : ℕ) → IsBitSet (number_of new high) j ↔ ((j ≡ k) ⊎ IsBitSet n j)
more_low n low high new k is small fits below added = by_halves new high (λ j. (j ≡ k) ⊎ IsBitSet n j) fits
    (λ j b. iff_then (added j) (iff_or (λ e. e, λ e. e) (low_bits n low high j is b)))
    (λ j a. let e = high_bits n low high j is small a in (λ h. inr (e.0 h), λ either. elim either [ inl same ↦ absurd (omega arith) | inr h ↦ e.1 h ]))

pub more_high : (n low high new k : ℕ) → number_of low high ≡ n → low < 2 ^ 128 → 128 ≤ k → ((j : ℕ) → IsBitSet new j ↔ ((j ≡ k - 128) ⊎ IsBitSet high j)) → (j : ℕ) → IsBitSet (number_of low new) j ↔ ((j ≡ k) ⊎ IsBitSet n j)
more_high n low high new k is small above added = by_halves low new (λ j. (j ≡ k) ⊎ IsBitSet n j) small
    (λ j b. let e = low_bits n low high j is b in (λ h. inr (e.0 h), λ either. elim either [ inl same ↦ absurd (omega arith) | inr h ↦ e.1 h ]))
    (λ j a. iff_then (added (j - 128)) (iff_or (λ e. omega arith, λ e. omega arith) (high_bits n low high j is small a)))

-- the number of larger words is larger
pub halves_grow : (n low high low' high' : ℕ) → number_of low high ≡ n → low ≤ low' → high ≤ high' → n ≤ number_of low' high'
halves_grow n low high low' high' is l h = omega arith

-- inclusion, word by word
pub within_halves : (n low high m low' high' : ℕ) → number_of low high ≡ n → low < 2 ^ 128 → number_of low' high' ≡ m → low' < 2 ^ 128 → ((j : ℕ) → IsBitSet low j → IsBitSet low' j) → ((j : ℕ) → IsBitSet high j → IsBitSet high' j)
    → (j : ℕ) → IsBitSet n j → IsBitSet m j
within_halves n low high m low' high' is small is' small' l h j set = elim (cases_lt j 128) [
  | inl b ↦ (low_bits m low' high' j is' b).0 (l j ((low_bits n low high j is b).1 set))
  | inr a ↦ (high_bits m low' high' j is' small' a).0 (h (j - 128) ((high_bits n low high j is small a).1 set))
]

pub low_within : (n low high m low' high' : ℕ) → number_of low high ≡ n → low < 2 ^ 128 → number_of low' high' ≡ m → ((j : ℕ) → IsBitSet n j → IsBitSet m j) → (j : ℕ) → IsBitSet low j → IsBitSet low' j
low_within n low high m low' high' is small is' all j set = elim (cases_lt j 128) [
  | inl b ↦ (low_bits m low' high' j is' b).1 (all j ((low_bits n low high j is b).0 set))
  | inr a ↦ absurd (not-above low 128 j small a set)
]

pub high_within : (n low high m low' high' : ℕ) → number_of low high ≡ n → low < 2 ^ 128 → number_of low' high' ≡ m → low' < 2 ^ 128 → ((j : ℕ) → IsBitSet n j → IsBitSet m j) → (j : ℕ) → IsBitSet high j → IsBitSet high' j
high_within n low high m low' high' is small is' small' all j set = (high_bit m low' high' j is' small').1 (all (128 + j) ((high_bit n low high j is small).0 set))

unset-of : (n k : ℕ) → (IsBitSet n k → ⊥) → bit_at n k ≡ 0
unset-of n k none = elim (bit-cases n k) [ inl e ↦ e | inr e ↦ absurd (none (set-of n k e)) ]

-- what a word has that the other has not
pub beside_bits : (word other : ℕ) → word < 2 ^ 128 → other < 2 ^ 128 → (j : ℕ) → IsBitSet (bit_and word (2 ^ 128 - 1 - other)) j ↔ (IsBitSet word j × (IsBitSet other j → ⊥))
beside_bits word other small fits j = (there, λ p. set-of (bit_and word (2 ^ 128 - 1 - other)) j (let within = below p.0 in let e = at within in let f = one-of word j p.0 in let g = unset-of other j p.1 in omega arith))
  where
    at : j < 128 → bit_at (bit_and word (2 ^ 128 - 1 - other)) j ≡ min (bit_at word j) (1 - bit_at other j)
    at within = bit_at_and word (2 ^ 128 - 1 - other) j ∙ ap (λ b. min (bit_at word j) b) (bit_at_not w128 other j fits within)

    below : IsBitSet word j → j < 128
    below h = elim (cases_lt j 128) [ inl b ↦ b | inr a ↦ absurd (not-above word 128 j small a h) ]

    in_word : IsBitSet (bit_and word (2 ^ 128 - 1 - other)) j → j < 128
    in_word h = elim (cases_lt j 128) [ inl b ↦ b | inr a ↦ absurd (not-above (bit_and word (2 ^ 128 - 1 - other)) 128 j (let less = and_le_l word (2 ^ 128 - 1 - other) in omega arith) a h) ]

    there : IsBitSet (bit_and word (2 ^ 128 - 1 - other)) j → IsBitSet word j × (IsBitSet other j → ⊥)
    there h =
        let within = in_word h in let e = at within in let one = one-of (bit_and word (2 ^ 128 - 1 - other)) j h in
        let b = bit_at-lt word j in (set-of word j (omega arith), λ g. (let f = one-of other j g in absurd (omega arith)))

-- the least bit
pub first_bit : (word : ℕ) → word < 2 ^ 128 → 0 < word → (trailing_zeros w128 word < 128) × IsBitSet word (trailing_zeros w128 word) × ((j : ℕ) → j < trailing_zeros w128 word → IsBitSet word j → ⊥)
first_bit word small some =
    let (within, one, least) = bit_at-trailing_zeros w128 word some small in
    (within, set-of word (trailing_zeros w128 word) one, λ j b h. (let e = least j b in let f = one-of word j h in absurd (omega arith)))

pub first_low : (n low high k : ℕ) → number_of low high ≡ n → k < 128 → IsBitSet low k → ((j : ℕ) → j < k → IsBitSet low j → ⊥) → (k < 256) × IsBitSet n k × ((j : ℕ) → j < k → IsBitSet n j → ⊥)
first_low n low high k is below set least = (omega arith, (low_bits n low high k is below).0 set, λ j b h. least j b ((low_bits n low high j is (omega arith)).1 h))

pub first_high : (n low high k : ℕ) → number_of low high ≡ n → low < 2 ^ 128 → ((j : ℕ) → IsBitSet low j → ⊥) → k < 128 → IsBitSet high k → ((j : ℕ) → j < k → IsBitSet high j → ⊥)
    → (128 + k < 256) × IsBitSet n (128 + k) × ((j : ℕ) → j < 128 + k → IsBitSet n j → ⊥)
first_high n low high k is small none below set least = (
  omega arith,
  (high_bit n low high k is small).0 set,
  λ j b h. elim (cases_lt j 128) [
    | inl l ↦ none j ((low_bits n low high j is l).1 h)
    | inr a ↦ least (j - 128) (omega arith) ((high_bits n low high j is small a).1 h)
  ],
)

pub none_halves : (n low high : ℕ) → number_of low high ≡ n → low < 2 ^ 128 → ((j : ℕ) → IsBitSet low j → ⊥) → ((j : ℕ) → IsBitSet high j → ⊥) → (j : ℕ) → IsBitSet n j → ⊥
none_halves n low high is small l h j set = elim (cases_lt j 128) [ inl b ↦ l j ((low_bits n low high j is b).1 set) | inr a ↦ h (j - 128) ((high_bits n low high j is small a).1 set) ]
