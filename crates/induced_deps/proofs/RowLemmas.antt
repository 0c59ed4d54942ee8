-- Rows of words as sets of numbers.
use Rattle.std.specs.Prelude.{IsBitSet, nat_eq, slice_set, slice_index_or, ◌%◌, ◌/◌, ◌^◌, ◌-◌}
use Rattle.std.proofs.Common.{◌≡◌, ◌≢◌, ℕ, zero, suc, ◌+◌, ◌*◌, ◌<◌, ◌≤◌, ◌⊎◌, ◌↔◌, inl, inr, refl, sym, ap, subst, ◌∙◌, arith, List, [], ◌∷◌, length, Bool, true, false, eq-eqb, true≢false}
use Rattle.std.proofs.Math.Nat.{div-add-mod}
use Rattle.std.proofs.lemmas.List.{get_or-set_same, get_or-set_other, get_or_past}
use Rattle.std.proofs.lemmas.Bool.{eqb-true, cases_lt, cases_order}
use Rattle.std.proofs.lemmas.List.Sums.{sum_by-set, sum_by-cons}
use Rattle.flat_grammar.proofs.BitsLemmas.{empty-set, within-le}
use Rattle.induced_deps.specs.Rows.{IsIn, IsPart}
use Rattle.induced_deps.specs.Rounds.{room}

zeros : (k : ℕ) → ◌≡◌ {A = ℕ} (slice_index_or (0 ∷ 0 ∷ 0 ∷ 0 ∷ 0 ∷ 0 ∷ 0 ∷ 0 ∷ []) k 0) 0
zeros zero = refl
zeros (suc zero) = refl
zeros (suc (suc zero)) = refl
zeros (suc (suc (suc zero))) = refl
zeros (suc (suc (suc (suc zero)))) = refl
zeros (suc (suc (suc (suc (suc zero))))) = refl
zeros (suc (suc (suc (suc (suc (suc zero)))))) = refl
zeros (suc (suc (suc (suc (suc (suc (suc zero))))))) = refl
zeros (suc (suc (suc (suc (suc (suc (suc (suc k)))))))) = refl

pub no_member : (j : ℕ) → IsIn (0 ∷ 0 ∷ 0 ∷ 0 ∷ 0 ∷ 0 ∷ 0 ∷ 0 ∷ []) j → ⊥
unfolding IsIn
no_member j h = empty-set (j % 128) (subst (λ w. IsBitSet w (j % 128)) (zeros (j / 128)) h)

same_number : (j k : ℕ) → j / 128 ≡ k / 128 → j % 128 ≡ k % 128 → j ≡ k
same_number j k q r = let a = div-add-mod j 128 in let b = div-add-mod k 128 in sym a ∙ ap (λ n. 128 * n + j % 128) q ∙ ap (λ n. 128 * (k / 128) + n) r ∙ b

pub equal_or_not : (j k : ℕ) → (j ≡ k) ⊎ (j ≢ k)
equal_or_not j k = go (nat_eq j k) refl
  where
    go : (b : Bool) → nat_eq j k ≡ b → (j ≡ k) ⊎ (j ≢ k)
    go true e = inl (eqb-true j k e)
    go false e = inr (λ same. true≢false (sym (eq-eqb j k same) ∙ e))

module _ (ws : List ℕ) (k word : ℕ) (within : k / 128 < length ws) (with : (b : ℕ) → IsBitSet word b ↔ ((b ≡ k % 128) ⊎ IsBitSet (slice_index_or ws (k / 128) 0) b)) where
  at_word : (j : ℕ) → j / 128 ≡ k / 128 → slice_index_or (slice_set ws (k / 128) word) (j / 128) 0 ≡ word
  at_word j same = ap (λ q. slice_index_or (slice_set ws (k / 128) word) q 0) same ∙ get_or-set_same ws (k / 128) word 0 within

  at_other : (j : ℕ) → j / 128 ≢ k / 128 → slice_index_or (slice_set ws (k / 128) word) (j / 128) 0 ≡ slice_index_or ws (j / 128) 0
  at_other j other = get_or-set_other ws (k / 128) (j / 128) word 0 other

  pub added : (j : ℕ) → IsIn (slice_set ws (k / 128) word) j ↔ ((j ≡ k) ⊎ IsIn ws j)
  unfolding IsIn
  added j = elim (equal_or_not (j / 128) (k / 128)) [ inl same ↦ here same | inr other ↦ there other ]
    where
      here : j / 128 ≡ k / 128 → IsIn (slice_set ws (k / 128) word) j ↔ ((j ≡ k) ⊎ IsIn ws j)
      here same = (
        λ h. elim ((with (j % 128)).0 (subst (λ w. IsBitSet w (j % 128)) (at_word j same) h)) [ inl e ↦ inl (same_number j k same e) | inr old ↦ inr (subst (λ q. IsBitSet (slice_index_or ws q 0) (j % 128)) (sym same) old) ],
        λ h. subst (λ w. IsBitSet w (j % 128)) (sym (at_word j same)) ((with (j % 128)).1 (elim h [ inl e ↦ inl (ap (λ n. n % 128) e) | inr old ↦ inr (subst (λ q. IsBitSet (slice_index_or ws q 0) (j % 128)) same old) ])),
      )

      there : j / 128 ≢ k / 128 → IsIn (slice_set ws (k / 128) word) j ↔ ((j ≡ k) ⊎ IsIn ws j)
      there other = (
        λ h. inr (subst (λ w. IsBitSet w (j % 128)) (at_other j other) h),
        λ h. elim h [ inl e ↦ absurd (other (ap (λ n. n / 128) e)) | inr old ↦ subst (λ w. IsBitSet w (j % 128)) (sym (at_other j other)) old ],
      )

no_word : (ws : List ℕ) (i b : ℕ) → length ws ≤ i → IsBitSet (slice_index_or ws i 0) b → ⊥
no_word ws i b past h = empty-set b (subst (λ w. IsBitSet w b) (get_or_past ws i 0 past) h)

-- word by word as far as both go, and so all numbers
pub joined_whole : (old new other : List ℕ) (k : ℕ) → length other ≤ k
    → ((i b : ℕ) → IsBitSet (slice_index_or new i 0) b ↔ (IsBitSet (slice_index_or old i 0) b ⊎ ((i < k) × IsBitSet (slice_index_or other i 0) b)))
    → (j : ℕ) → IsIn new j ↔ (IsIn old j ⊎ IsIn other j)
unfolding IsIn
joined_whole old new other k all joined j = (
  λ h. elim ((joined (j / 128) (j % 128)).0 h) [ inl o ↦ inl o | inr p ↦ inr p.1 ],
  λ h. (joined (j / 128) (j % 128)).1 (elim h [ inl o ↦ inl o | inr p ↦ inr (here (j / 128) (j % 128) p, p) ]),
)
  where
    here : (i b : ℕ) → IsBitSet (slice_index_or other i 0) b → i < k
    here i b h = elim (cases_lt i (length other)) [ inl within ↦ omega arith | inr past ↦ absurd (no_word other i b past h) ]

pub part_whole : (ws others : List ℕ) (k : ℕ) → length ws ≤ k → ((i b : ℕ) → i < k → IsBitSet (slice_index_or ws i 0) b → IsBitSet (slice_index_or others i 0) b) → IsPart ws others
unfolding IsPart
part_whole ws others k all known i b h = elim (cases_lt i (length ws)) [ inl within ↦ known i b (omega arith) h | inr past ↦ absurd (no_word ws i b past h) ]

-- a bit of a word as a number of the set
pub at_bit : (ws : List ℕ) (i b : ℕ) → b < 128 → IsBitSet (slice_index_or ws i 0) b ↔ IsIn ws (128 * i + b)
unfolding IsIn
at_bit ws i b small =
    let q : (128 * i + b) / 128 ≡ i = omega arith in
    let r : (128 * i + b) % 128 ≡ b = omega arith in (
      λ h. subst (λ n. IsBitSet (slice_index_or ws n 0) ((128 * i + b) % 128)) (sym q) (subst (λ n. IsBitSet (slice_index_or ws i 0) n) (sym r) h),
      λ h. subst (λ n. IsBitSet (slice_index_or ws i 0) n) r (subst (λ n. IsBitSet (slice_index_or ws n 0) ((128 * i + b) % 128)) q h),
    )

-- a greater word leaves less room
pub room_set : (ws : List ℕ) (i word : ℕ) → i < length ws → slice_index_or ws i 0 ≤ word → room (slice_set ws i word) ≤ room ws
room_set ws i word within more = let e = sum_by-set (λ row. 2 ^ 128 - row) ws i word 0 within in omega arith

room_less : (ws : List ℕ) (i word : ℕ) → i < length ws → slice_index_or ws i 0 < word → word < 2 ^ 128 → room (slice_set ws i word) < room ws
room_less ws i word within more small = let e = sum_by-set (λ row. 2 ^ 128 - row) ws i word 0 within in omega arith

-- a new number leaves less room
pub added_less : (ws : List ℕ) (k word : ℕ) → k / 128 < length ws → word < 2 ^ 128 → ((b : ℕ) → IsBitSet word b ↔ ((b ≡ k % 128) ⊎ IsBitSet (slice_index_or ws (k / 128) 0) b)) → (IsIn ws k → ⊥) → room (slice_set ws (k / 128) word) < room ws
unfolding IsIn
added_less ws k word within small with none = elim (cases_order (slice_index_or ws (k / 128) 0) word) [
  | inl same ↦ absurd (none (subst (λ n. IsBitSet n (k % 128)) (sym same) ((with (k % 128)).1 (inl refl))))
  | inr apart ↦ elim apart [
    | inl less ↦ room_less ws (k / 128) word within less small
    | inr more ↦ (let least = within-le (slice_index_or ws (k / 128) 0) word (λ b h. (with b).1 (inr h)) in absurd (omega arith))
  ]
]

-- more numbers leave no more room
pub room_part : (olds news : List ℕ) → length olds ≡ length news → ((i b : ℕ) → IsBitSet (slice_index_or olds i 0) b → IsBitSet (slice_index_or news i 0) b) → room news ≤ room olds
room_part [] [] size kept = omega arith
room_part [] (y ∷ news) size kept = absurd (omega arith)
room_part (x ∷ olds) [] size kept = absurd (omega arith)
room_part (x ∷ olds) (y ∷ news) size kept =
    let rest = room_part olds news (omega arith) (λ i b h. kept (suc i) b h) in
    let more = within-le x y (λ b h. kept 0 b h) in
    let old = sum_by-cons (λ row. 2 ^ 128 - row) x olds in
    let new = sum_by-cons (λ row. 2 ^ 128 - row) y news in
    omega arith
