-- The first item that clashes with those before it.
use Rattle.std.proofs.Common.{◌≡◌, ◌⊎◌, inl, inr, List, [], ◌∷◌, ◌++◌, length, refl, sym, ap, subst, ◌∙◌, arith, length-append}
use Rattle.ptg_patterns.specs.First.{HasNoClash, IsFirstClash}

-- the last item, or one before it
last_or_before : {A : Type 0} (items front back : List A) (last item : A) → items ++ last ∷ [] ≡ front ++ item ∷ back
    → ((items ≡ front) × (last ≡ item)) ⊎ ((behind : List A) × (items ≡ front ++ item ∷ behind))
last_or_before [] [] back last item e = let same : last ≡ item = cc in inl (refl, same)
last_or_before [] (x ∷ front) back last item e = absurd (omega (arith, ap length e, length-append front (item ∷ back)))
last_or_before (x ∷ items) [] back last item e = let same : x ≡ item = cc in inr (items, (λ j. same j ∷ items))
last_or_before {A} (x ∷ items) (y ∷ front) back last item e =
    let head : x ≡ y = cc in
    let tail : items ++ last ∷ [] ≡ front ++ item ∷ back = cc in
    elim (last_or_before items front back last item tail) [
      | inl both ↦ inl ((λ j. head j ∷ both.0 j), both.1)
      | inr more ↦ inr (more.0, (λ j. head j ∷ more.1 j))
    ]

module _ {A : Type 0} (Clashes : List A → A → Type 0) where
  pub none_at_first : HasNoClash Clashes []
  none_at_first before item behind e clashes = omega (arith, ap length e, length-append before (item ∷ behind))

  pub none_more : (items : List A) (item : A) → HasNoClash Clashes items → (Clashes items item → ⊥) → HasNoClash Clashes (items ++ item ∷ [])
  none_more items item none fits front other back e clashes = elim (last_or_before items front back item other e) [
    | inl both ↦ fits (subst (λ (x : A). Clashes items x) (sym both.1) (subst (λ (l : List A). Clashes l other) (sym both.0) clashes))
    | inr more ↦ none front other more.0 more.1 clashes
  ]

  pub first_here : (items before behind : List A) (item : A) → HasNoClash Clashes before → Clashes before item → items ≡ before ++ item ∷ behind → IsFirstClash Clashes items before item
  first_here items before behind item none clashes e = record { behind = behind; parts = e; clashes = clashes; none_before = none }

  -- what comes first is no later
  pub no_first : (items before : List A) (item : A) → HasNoClash Clashes items → IsFirstClash Clashes items before item → ⊥
  no_first items before item none first = none before item first.behind first.parts first.clashes

one_of : {A : Type 0} (before others behind after : List A) (item other : A) → before ++ item ∷ behind ≡ others ++ other ∷ after
    → ((before ≡ others) × (item ≡ other)) ⊎ (((more : List A) × (others ≡ before ++ item ∷ more)) ⊎ ((more : List A) × (before ≡ others ++ other ∷ more)))
one_of [] [] behind after item other e = let same : item ≡ other = cc in inl (refl, same)
one_of [] (x ∷ others) behind after item other e = let same : x ≡ item = cc in inr (inl (others, (λ j. same j ∷ others)))
one_of (x ∷ before) [] behind after item other e = let same : x ≡ other = cc in inr (inr (before, (λ j. same j ∷ before)))
one_of (x ∷ before) (y ∷ others) behind after item other e =
    let head : x ≡ y = cc in
    let tail : before ++ item ∷ behind ≡ others ++ other ∷ after = cc in
    elim (one_of before others behind after item other tail) [
      | inl both ↦ inl ((λ j. head j ∷ both.0 j), both.1)
      | inr (inl more) ↦ inr (inl (more.0, (λ j. sym head j ∷ more.1 j)))
      | inr (inr more) ↦ inr (inr (more.0, (λ j. head j ∷ more.1 j)))
    ]

module _ {A : Type 0} (Clashes : List A → A → Type 0) where
  -- there is one first
  pub one_first : (items before others : List A) (item other : A) → IsFirstClash Clashes items before item → IsFirstClash Clashes items others other → (before ≡ others) × (item ≡ other)
  one_first items before others item other a b = elim (one_of before others a.behind b.behind item other (sym a.parts ∙ b.parts)) [
    | inl both ↦ both
    | inr (inl more) ↦ absurd (b.none_before before item more.0 more.1 a.clashes)
    | inr (inr more) ↦ absurd (a.none_before others other more.0 more.1 b.clashes)
  ]
