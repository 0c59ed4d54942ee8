-- The first item of a list that clashes with those before it.
use Rattle.std.specs.Prelude.{◌≡◌, List, ◌∷◌, ◌++◌}

module _ {A : Type 0} (Clashes : List A → A → Type 0) where
  -- No item clashes with those before it.
  abbrev pub HasNoClash : List A → Type 0
  HasNoClash items = (before : List A) (item : A) (behind : List A) → items ≡ before ++ item ∷ behind → Clashes before item → ⊥

  -- These stand before the item, which clashes with them, and none of them clashes with those before it.
  pub record IsFirstClash (items before : List A) (item : A) : Type 0 where
    pub behind : List A
    pub parts : items ≡ before ++ item ∷ behind
    pub clashes : Clashes before item
    pub none_before : HasNoClash before
