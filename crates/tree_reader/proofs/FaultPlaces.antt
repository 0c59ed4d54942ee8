-- A text has one fault place at most, and none if it is of the language.
use Rattle.std.proofs.Common.{◌≡◌, ℕ, ◌+◌, ◌<◌, ◌≤◌, ⊎_elim, List, [], ◌∷◌, ◌++◌, length, take, refl, ap, ◌∙◌, subst, arith, suc, zero, append_assoc}
use Rattle.std.proofs.lemmas.Bool.{cases_lt}
use Rattle.lido_base.specs.Reading.{Begins, IsFaultPlace}

module _ {T : Type 0} (L : List T → Type 0) where
  shorter : (j k : ℕ) (text : List T) → j ≤ k → (more : List T) × (take k text ≡ take j text ++ more)
  shorter zero k text less = (take k text, refl)
  shorter (suc j) zero text less = absurd (omega arith)
  shorter (suc j) (suc k) [] less = ([], refl)
  shorter (suc j) (suc k) (t ∷ text) less = let (more, e) = shorter j k text (omega arith) in (more, ap (λ (l : List T). t ∷ l) e)

  whole : (k : ℕ) (text : List T) → (more : List T) × (text ≡ take k text ++ more)
  whole zero text = (text, refl)
  whole (suc k) [] = ([], refl)
  whole (suc k) (t ∷ text) = let (more, e) = whole k text in (more, ap (λ (l : List T). t ∷ l) e)

  begins_shorter : (j k : ℕ) (text : List T) → j ≤ k → Begins L (take k text) → Begins L (take j text)
  begins_shorter j k text less (rest, l) =
      let (more, e) = shorter j k text less in
      (more ++ rest, subst L (ap (λ (x : List T). x ++ rest) e ∙ append_assoc (take j text) more rest) l)

  -- what is of the language has no fault
  pub no_fault : (text : List T) (k : ℕ) → L text → IsFaultPlace L text k → ⊥
  no_fault text k l fault = ⊎_elim
      (λ less. let (more, e) = whole (k + 1) text in fault.next_fits_none less (more, subst L e l))
      (λ past. fault.end_fits_none (omega (arith, fault.within)) l)
      (cases_lt k (length text))

  not_before : (text : List T) (j k : ℕ) → IsFaultPlace L text j → IsFaultPlace L text k → j < k → ⊥
  not_before text j k first second less = first.next_fits_none (omega (arith, second.within)) (begins_shorter (j + 1) k text (omega arith) second.begins)

  pub one_fault : (text : List T) (j k : ℕ) → IsFaultPlace L text j → IsFaultPlace L text k → j ≡ k
  one_fault text j k first second = ⊎_elim
      (λ less. absurd (not_before text j k first second less))
      (λ past. ⊎_elim (λ less. absurd (not_before text k j second first less)) (λ also. omega (arith, past, also)) (cases_lt k j))
      (cases_lt j k)
