-- The mark at the front of a text.
use Rattle.std.specs.Prelude.{◌≡◌, ◌<◌, ℕ, ℤ, List, ◌∷◌, length, FitsSigned}
use Rattle.std.specs.Int.{w64}
use Rattle.sum_trees.specs.declared.form.SumRule.{SumRule}
use Rattle.sum_trees.specs.Marks.{Mark, begins, number, ends, Spells}
use Rattle.sum_trees.specs.Trees.{rule_at}

-- the rule k's name begins a node in front, and what is behind is the rest
pub record BeginsFront (rules : List SumRule) (bytes : List ℕ) (k : ℕ) (rest : List ℕ) : Type 0 where
  pub there : k < length rules
  pub on : (marks : List Mark) → Spells marks rest → Spells (begins (rule_at rules k).name ∷ marks) bytes
  pub back : (r : ℕ) (marks : List Mark) → r < length rules → Spells (begins (rule_at rules r).name ∷ marks) bytes → (r ≡ k) × Spells marks rest

pub record NumberFront (bytes : List ℕ) (z : ℤ) (rest : List ℕ) : Type 0 where
  pub fits : FitsSigned w64 z
  pub on : (marks : List Mark) → Spells marks rest → Spells (number z ∷ marks) bytes
  pub back : (w : ℤ) (marks : List Mark) → Spells (number w ∷ marks) bytes → (w ≡ z) × Spells marks rest

pub record EndFront (bytes rest : List ℕ) : Type 0 where
  pub on : (marks : List Mark) → Spells marks rest → Spells (ends ∷ marks) bytes
  pub back : (marks : List Mark) → Spells (ends ∷ marks) bytes → Spells marks rest
