-- The left sides that stand on no right side, by the sets of names.
use Rattle.std.specs.Prelude.{◌≡◌, ℕ, ◌⊎◌, IsTrue, List, AllPairs, Contains}
use Rattle.lido_syntax.specs.declared.spec.RuleItem.{RuleItem}
use Rattle.lido_syntax.specs.Production.{left_of}
use Rattle.kind_clashes.specs.declared.sets.NameSets.{NameSets}
use Rattle.kind_clashes.specs.Least.{Among}
use Rattle.kind_clashes.specs.Names.{has}

-- no number twice
abbrev pub AreDifferent : List ℕ → Type 0
AreDifferent = AllPairs (λ s q. s ≡ q → ⊥)

-- the numbers that were there, and where this is so one more, unless it was there
pub record HasIf (P : ℕ → Type 0) (before after : List ℕ) : Type 0 where
  pub only : (s : ℕ) → Contains after s → Contains before s ⊎ P s
  pub kept : (s : ℕ) → Contains before s → Contains after s
  pub all : (s : ℕ) → P s → Contains after s
  pub once : AreDifferent before → AreDifferent after

abbrev pub IsWith : ℕ → List ℕ → List ℕ → Type 0
IsWith id = HasIf (λ s. s ≡ id)

abbrev pub IsRootOf : NameSets → ℕ → List ℕ → List ℕ → Type 0
IsRootOf sets id = HasIf (λ s. (¬ IsTrue (has sets.right_sides id)) × (s ≡ id))

pub record AreRootsOf (sets : NameSets) (rules : List RuleItem) (roots : List ℕ) : Type 0 where
  pub only : (s : ℕ) → Contains roots s → Among (λ (r : RuleItem) q. (¬ IsTrue (has sets.right_sides (left_of r))) × (q ≡ left_of r)) rules s
  pub all : (s : ℕ) → Among (λ (r : RuleItem) q. (¬ IsTrue (has sets.right_sides (left_of r))) × (q ≡ left_of r)) rules s → Contains roots s
  pub once : AreDifferent roots
