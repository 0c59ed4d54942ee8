-- Words whose bits are moved.
use Rattle.std.specs.Prelude.{IsBitSet, slice_index_or, slice_set, ◌/◌, ◌%◌, ◌^◌, ◌*◌, ◌-◌}
use Rattle.std.specs.Int.{bit_at}
use Rattle.std.proofs.Common.{◌≡◌, ℕ, ◌+◌, ◌<◌, ◌≤◌, ◌↔◌, ◌⊎◌, inl, inr, sym, ap, subst, ◌∙◌, arith, List, length}
use Rattle.std.proofs.Math.Nat.{div-div-eq-div-mul, div-add-mod}
use Rattle.std.proofs.lemmas.Bool.{cases_lt}
use Rattle.std.proofs.lemmas.List.{get_or-set_same, get_or-set_other}
use Rattle.std.proofs.lemmas.Nat.{div-add-mod', mod_below, pow-add, bit_set_by_shift}
use Rattle.std.proofs.lemmas.Nat.Bits.{bit_at-zero, bit_at_cat_low, bit_at_cat_high, shr_and_one}
use Rattle.flat_grammar.proofs.BitsLemmas.{not-above, empty-set, by_halves, low_bits, high_bits}
use Rattle.flat_grammar.specs.Halves.{number_of}
use Rattle.induced_deps.specs.Rows.{IsIn}
use Rattle.induced_deps.proofs.RowLemmas.{equal_or_not}
use lib.Pow.{pow_pos}

one_of : (n k : ℕ) → IsBitSet n k → bit_at n k ≡ 1
one_of n k h = sym (shr_and_one n k) ∙ (bit_set_by_shift n k).1 h

set_of : (n k : ℕ) → bit_at n k ≡ 1 → IsBitSet n k
set_of n k e = (bit_set_by_shift n k).0 (shr_and_one n k ∙ e)

same_bit : (m j n k : ℕ) → bit_at m j ≡ bit_at n k → IsBitSet m j ↔ IsBitSet n k
same_bit m j n k same = (λ h. set_of n k (sym same ∙ one_of m j h), λ h. set_of m j (same ∙ one_of n k h))

bit_down : (n s k : ℕ) → bit_at (n / 2 ^ s) k ≡ bit_at n (k + s)
bit_down n s k = ap (λ m. m % 2) (div-div-eq-div-mul n (2 ^ s) (2 ^ k) ∙ ap (λ m. n / m) (sym (pow-add 2 s k) ∙ ap (λ m. 2 ^ m) (omega arith)))

bit_rest : (n w k : ℕ) → k < w → bit_at (n % 2 ^ w) k ≡ bit_at n k
bit_rest n w k low = sym (bit_at_cat_low (n / 2 ^ w) w (n % 2 ^ w) k low) ∙ ap (λ m. bit_at m k) (div-add-mod' n (2 ^ w))

bit_up_low : (n s k : ℕ) → k < s → bit_at (n * 2 ^ s) k ≡ 0
bit_up_low n s k low = ap (λ m. bit_at m k) (omega arith) ∙ bit_at_cat_low n s 0 k low ∙ bit_at-zero k

bit_up : (n s k : ℕ) → s ≤ k → bit_at (n * 2 ^ s) k ≡ bit_at n (k - s)
bit_up n s k high = ap (λ m. bit_at m k) (omega arith) ∙ bit_at_cat_high n s 0 k (pow_pos s) high

-- a word that is moved down
pub down_bits : (n s k : ℕ) → IsBitSet (n / 2 ^ s) k ↔ IsBitSet n (k + s)
down_bits n s k = same_bit (n / 2 ^ s) k n (k + s) (bit_down n s k)

-- a word that is moved up, as far as the word goes
pub up_bits : (n s w k : ℕ) → IsBitSet (n * 2 ^ s % 2 ^ w) k ↔ ((k < w) × (s ≤ k) × IsBitSet n (k - s))
up_bits n s w k = (there, λ (within, high, bit). (same_bit (n * 2 ^ s % 2 ^ w) k n (k - s) (bit_rest (n * 2 ^ s) w k within ∙ bit_up n s k high)).1 bit)
  where
    there : IsBitSet (n * 2 ^ s % 2 ^ w) k → (k < w) × (s ≤ k) × IsBitSet n (k - s)
    there h = elim (cases_lt k w) [
      | inr past ↦ absurd (not-above (n * 2 ^ s % 2 ^ w) w k (mod_below (n * 2 ^ s) (2 ^ w) (pow_pos w)) past h)
      | inl within ↦ elim (cases_lt k s) [
        | inl low ↦ (let one = one_of (n * 2 ^ s % 2 ^ w) k h in let none = bit_rest (n * 2 ^ s) w k within ∙ bit_up_low n s k low in absurd (omega arith))
        | inr high ↦ (within, high, (same_bit (n * 2 ^ s % 2 ^ w) k n (k - s) (bit_rest (n * 2 ^ s) w k within ∙ bit_up n s k high)).0 h)
      ]
    ]

pub no_bits_up : (s k : ℕ) (n : ℕ) → 128 ≤ s → IsBitSet 0 k ↔ ((k < 128) × (s ≤ k) × IsBitSet n (k - s))
no_bits_up s k n far = (λ h. absurd (empty-set k h), λ h. (let low = h.0 in let high = h.1 in absurd (omega arith)))

pub no_bits_down : (s k : ℕ) (n : ℕ) → n < 2 ^ 128 → 128 ≤ s → IsBitSet 0 k ↔ IsBitSet n (k + s)
no_bits_down s k n fits far = (λ h. absurd (empty-set k h), λ h. absurd (not-above n 128 (k + s) fits (omega arith) h))

-- The bits below a place: all further up, and down again.
pub below_bits : (n up down place : ℕ) → place < 128 → ((k : ℕ) → IsBitSet up k ↔ ((k < 128) × (128 - place ≤ k) × IsBitSet n (k - (128 - place))))
    → ((k : ℕ) → IsBitSet down k ↔ IsBitSet up (k + (128 - place))) → (k : ℕ) → IsBitSet down k ↔ ((k < place) × IsBitSet n k)
below_bits n up down place small is_up is_down k = (
  λ h. (let m = (is_up (k + (128 - place))).0 ((is_down k).0 h) in let inside = m.0 in (omega arith, subst (IsBitSet n) (omega arith) m.2)),
  λ h. (let inside = h.0 in (is_down k).1 ((is_up (k + (128 - place))).1 (omega arith, omega arith, subst (IsBitSet n) (omega arith) h.1))),
)

-- Two words of a row that have the bits of one word, so much further up.
module _ (word by first second : ℕ) (fits : word < 2 ^ 128) (is_first : (k : ℕ) → IsBitSet first k ↔ ((k < 128) × (by % 128 ≤ k) × IsBitSet word (k - by % 128)))
    (is_second : (k : ℕ) → IsBitSet second k ↔ IsBitSet word (k + (128 - by % 128))) where
  pub moved_in : (j : ℕ) → (by ≤ j) × IsBitSet word (j - by) → ((j / 128 ≡ by / 128) × IsBitSet first (j % 128)) ⊎ ((j / 128 ≡ by / 128 + 1) × IsBitSet second (j % 128))
  moved_in j (above, bit) =
      let a = div-add-mod j 128 in
      let b = div-add-mod by 128 in
      let c = mod_below j 128 (omega arith) in
      let d = mod_below by 128 (omega arith) in
      elim (cases_lt (j - by) 128) [
        | inr far ↦ absurd (not-above word 128 (j - by) fits far bit)
        | inl near ↦ elim (cases_lt (by / 128) (j / 128)) [
          | inl next ↦ inr (omega arith, (is_second (j % 128)).1 (subst (IsBitSet word) (omega arith) bit))
          | inr here ↦ inl (omega arith, (is_first (j % 128)).1 (omega arith, omega arith, subst (IsBitSet word) (omega arith) bit))
        ]
      ]

  pub in_moved : (j : ℕ) → ((j / 128 ≡ by / 128) × IsBitSet first (j % 128)) ⊎ ((j / 128 ≡ by / 128 + 1) × IsBitSet second (j % 128)) → (by ≤ j) × IsBitSet word (j - by)
  in_moved j (inl (same, bit)) =
      let a = div-add-mod j 128 in
      let b = div-add-mod by 128 in
      let (low, above, set) = (is_first (j % 128)).0 bit in
      (omega arith, subst (IsBitSet word) (omega arith) set)
  in_moved j (inr (next, bit)) =
      let a = div-add-mod j 128 in
      let b = div-add-mod by 128 in
      let d = mod_below by 128 (omega arith) in
      let set = (is_second (j % 128)).0 bit in
      (omega arith, subst (IsBitSet word) (omega arith) set)

-- One word that has the bits of two words of a row, so much further down.
module _ (words : List ℕ) (from low high : ℕ) (fits : slice_index_or words (from / 128) 0 < 2 ^ 128) (is_low : (k : ℕ) → IsBitSet low k ↔ IsBitSet (slice_index_or words (from / 128) 0) (k + from % 128))
    (is_high : (k : ℕ) → IsBitSet high k ↔ ((k < 128) × (128 - from % 128 ≤ k) × IsBitSet (slice_index_or words (from / 128 + 1) 0) (k - (128 - from % 128)))) where
  pub seen_in : (b : ℕ) → IsBitSet low b ⊎ IsBitSet high b → (b < 128) × IsIn words (from + b)
  unfolding IsIn
  seen_in b (inl h) =
      let set = (is_low b).0 h in
      let a = div-add-mod (from + b) 128 in
      let e = div-add-mod from 128 in
      let c = mod_below (from + b) 128 (omega arith) in
      elim (cases_lt (b + from % 128) 128) [
        | inr far ↦ absurd (not-above (slice_index_or words (from / 128) 0) 128 (b + from % 128) fits far set)
        | inl near ↦ (
          omega arith,
          (let q : from / 128 ≡ (from + b) / 128 = omega arith in let r : b + from % 128 ≡ (from + b) % 128 = omega arith in
              subst (λ m. IsBitSet (slice_index_or words m 0) ((from + b) % 128)) q (subst (IsBitSet (slice_index_or words (from / 128) 0)) r set)),
        )
      ]
  seen_in b (inr h) =
      let (within, above, set) = (is_high b).0 h in
      let a = div-add-mod (from + b) 128 in
      let e = div-add-mod from 128 in
      let c = mod_below (from + b) 128 (omega arith) in
      let d = mod_below from 128 (omega arith) in (
        within,
        (let q : from / 128 + 1 ≡ (from + b) / 128 = omega arith in let r : b - (128 - from % 128) ≡ (from + b) % 128 = omega arith in
            subst (λ m. IsBitSet (slice_index_or words m 0) ((from + b) % 128)) q (subst (IsBitSet (slice_index_or words (from / 128 + 1) 0)) r set)),
      )

  pub in_seen : (b : ℕ) → (b < 128) × IsIn words (from + b) → IsBitSet low b ⊎ IsBitSet high b
  unfolding IsIn
  in_seen b (within, set) =
      let a = div-add-mod (from + b) 128 in
      let e = div-add-mod from 128 in
      let c = mod_below (from + b) 128 (omega arith) in
      let d = mod_below from 128 (omega arith) in
      elim (cases_lt (b + from % 128) 128) [
        | inl near ↦ inl ((is_low b).1 (let q : (from + b) / 128 ≡ from / 128 = omega arith in let r : (from + b) % 128 ≡ b + from % 128 = omega arith in
            subst (λ m. IsBitSet (slice_index_or words m 0) (b + from % 128)) q (subst (IsBitSet (slice_index_or words ((from + b) / 128) 0)) r set)))
        | inr far ↦ inr ((is_high b).1 (
          within,
          omega arith,
          (let q : (from + b) / 128 ≡ from / 128 + 1 = omega arith in let r : (from + b) % 128 ≡ b - (128 - from % 128) = omega arith in
              subst (λ m. IsBitSet (slice_index_or words m 0) (b - (128 - from % 128))) q (subst (IsBitSet (slice_index_or words ((from + b) / 128) 0)) r set)),
        ))
      ]

pub from_two : (old middle new : List ℕ) (word by first second : ℕ) → word < 2 ^ 128 → ((j : ℕ) → IsIn old j → ⊥)
    → ((j : ℕ) → IsIn middle j ↔ (IsIn old j ⊎ ((j / 128 ≡ by / 128) × (by / 128 < 8) × IsBitSet first (j % 128))))
    → ((j : ℕ) → IsIn new j ↔ (IsIn middle j ⊎ ((j / 128 ≡ by / 128 + 1) × (by / 128 + 1 < 8) × IsBitSet second (j % 128))))
    → ((k : ℕ) → IsBitSet first k ↔ ((k < 128) × (by % 128 ≤ k) × IsBitSet word (k - by % 128)))
    → ((k : ℕ) → IsBitSet second k ↔ IsBitSet word (k + (128 - by % 128)))
    → (j : ℕ) → IsIn new j ↔ ((j < 1024) × (by ≤ j) × IsBitSet word (j - by))
from_two old middle new word by first second fits none put_first put_second is_first is_second j = (there, back)
  where
    there : IsIn new j → (j < 1024) × (by ≤ j) × IsBitSet word (j - by)
    there h = elim ((put_second j).0 h) [
      | inl before ↦ elim ((put_first j).0 before) [
        | inl empty ↦ absurd (none j empty)
        | inr (same, few, bit) ↦ (let a = div-add-mod j 128 in let c = mod_below j 128 (omega arith) in
            let (above, set) = in_moved word by first second fits is_first is_second j (inl (same, bit)) in (omega arith, above, set))
      ]
      | inr (same, few, bit) ↦ (let a = div-add-mod j 128 in let c = mod_below j 128 (omega arith) in
          let (above, set) = in_moved word by first second fits is_first is_second j (inr (same, bit)) in (omega arith, above, set))
    ]

    back : (j < 1024) × (by ≤ j) × IsBitSet word (j - by) → IsIn new j
    back (small, above, set) =
        let a = div-add-mod j 128 in
        elim (moved_in word by first second fits is_first is_second j (above, set)) [
          | inl (same, bit) ↦ (put_second j).1 (inl ((put_first j).1 (inr (same, omega arith, bit))))
          | inr (same, bit) ↦ (put_second j).1 (inr (same, omega arith, bit))
        ]

-- a row with more bits in one of its words
pub put_in : (words : List ℕ) (i word new : ℕ) → i < length words → i < 8 → ((j : ℕ) → IsBitSet new j ↔ (IsBitSet (slice_index_or words i 0) j ⊎ IsBitSet word j))
    → (j : ℕ) → IsIn (slice_set words i new) j ↔ (IsIn words j ⊎ ((j / 128 ≡ i) × (i < 8) × IsBitSet word (j % 128)))
unfolding IsIn
put_in words i word new within few both j = elim (equal_or_not (j / 128) i) [
  | inl same ↦ (let here : slice_index_or (slice_set words i new) (j / 128) 0 ≡ new = ap (λ q. slice_index_or (slice_set words i new) q 0) same ∙ get_or-set_same words i new 0 within in (
    λ h. elim ((both (j % 128)).0 (subst (λ w. IsBitSet w (j % 128)) here h)) [ inl old ↦ inl (subst (λ q. IsBitSet (slice_index_or words q 0) (j % 128)) (sym same) old) | inr more ↦ inr (same, few, more) ],
    λ h. subst (λ w. IsBitSet w (j % 128)) (sym here) ((both (j % 128)).1 (elim h [ inl old ↦ inl (subst (λ q. IsBitSet (slice_index_or words q 0) (j % 128)) same old) | inr more ↦ inr more.2 ])),
  ))
  | inr other ↦ (let there : slice_index_or (slice_set words i new) (j / 128) 0 ≡ slice_index_or words (j / 128) 0 = get_or-set_other words i (j / 128) new 0 other in (
    λ h. inl (subst (λ w. IsBitSet w (j % 128)) there h),
    λ h. elim h [ inl old ↦ subst (λ w. IsBitSet w (j % 128)) (sym there) old | inr more ↦ absurd (other more.0) ],
  ))
]

-- ---- sets of two words

-- the bits of both words below a place
pub first_halves : (n low high first second count : ℕ) → number_of low high ≡ n → low < 2 ^ 128 → first < 2 ^ 128 → ((k : ℕ) → IsBitSet first k ↔ ((k < count) × IsBitSet low k)) → ((k : ℕ) → IsBitSet second k ↔ ((k < count - 128) × IsBitSet high k))
    → (k : ℕ) → IsBitSet (number_of first second) k ↔ ((k < count) × IsBitSet n k)
first_halves n low high first second count is small fits is_first is_second = by_halves first second (λ k. (k < count) × IsBitSet n k) fits
    (λ k b. let e = low_bits n low high k is b in (λ h. (let p = (is_first k).0 h in (p.0, e.0 p.1)), λ p. (is_first k).1 (p.0, e.1 p.1)))
    (λ k a. let e = high_bits n low high k is small a in (λ h. (let p = (is_second (k - 128)).0 h in (omega arith, e.0 p.1)), λ p. (is_second (k - 128)).1 (omega arith, e.1 p.1)))

-- two sets of vertices, one for each word
pub from_halves : (n low high by : ℕ) (first second both : List ℕ) → number_of low high ≡ n → low < 2 ^ 128
    → ((j : ℕ) → IsIn first j ↔ ((j < 1024) × (by ≤ j) × IsBitSet low (j - by))) → ((j : ℕ) → IsIn second j ↔ ((j < 1024) × (by + 128 ≤ j) × IsBitSet high (j - (by + 128))))
    → ((j : ℕ) → IsIn both j ↔ (IsIn first j ⊎ IsIn second j)) → (j : ℕ) → IsIn both j ↔ ((j < 1024) × (by ≤ j) × IsBitSet n (j - by))
from_halves n low high by first second both is small is_first is_second joined j = (
  λ h. elim ((joined j).0 h) [
    | inl one ↦ (let p = (is_first j).0 one in (p.0, p.1, elim (cases_lt (j - by) 128) [ inl b ↦ (low_bits n low high (j - by) is b).0 p.2 | inr a ↦ absurd (not-above low 128 (j - by) small a p.2) ]))
    | inr two ↦ (let p = (is_second j).0 two in let far = p.1 in (p.0, omega arith, (high_bits n low high (j - by) is small (omega arith)).0 (subst (IsBitSet high) (omega arith) p.2)))
  ],
  λ p. (joined j).1 (elim (cases_lt (j - by) 128) [
    | inl b ↦ inl ((is_first j).1 (p.0, p.1, (low_bits n low high (j - by) is b).1 p.2))
    | inr a ↦ inr ((is_second j).1 (p.0, omega arith, subst (IsBitSet high) (omega arith) ((high_bits n low high (j - by) is small a).1 p.2)))
  ]),
)

-- two words of a set of vertices
pub seen_halves : (words : List ℕ) (from low high : ℕ) → low < 2 ^ 128 → ((b : ℕ) → IsBitSet low b ↔ ((b < 128) × IsIn words (from + b))) → ((b : ℕ) → IsBitSet high b ↔ ((b < 128) × IsIn words (from + 128 + b)))
    → (b : ℕ) → IsBitSet (number_of low high) b ↔ ((b < 256) × IsIn words (from + b))
seen_halves words from low high fits is_low is_high = by_halves low high (λ b. (b < 256) × IsIn words (from + b)) fits
    (λ b l. (λ h. (let p = (is_low b).0 h in (omega arith, p.1)), λ p. (is_low b).1 (l, p.1)))
    (λ b a. (λ h. (let p = (is_high (b - 128)).0 h in (omega arith, subst (IsIn words) (omega arith) p.1)), λ p. (is_high (b - 128)).1 (omega arith, subst (IsIn words) (omega arith) p.1)))
