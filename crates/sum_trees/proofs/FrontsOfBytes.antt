-- The front of bytes that pass a test, by the first byte.
use Rattle.std.proofs.Common.{◌≡◌, ◌+◌, ℕ, Bool, true, false, cond, List, [], ◌∷◌, drop, refl, ap, ◌∙◌, one-add}
use Rattle.std.specs.List.{prefix_len, take_while}
use Rattle.std.proofs.lemmas.List.Sums.{take_while-cons}
use Rattle.sum_trees.specs.Bytes.{behind}

pub behind_skip : (p : ℕ → Bool) (b : ℕ) (more : List ℕ) → p b ≡ true → behind p (b ∷ more) ≡ behind p more
behind_skip p b more passes = ap (λ (v : Bool). drop (cond v (1 + prefix_len p more) 0) (b ∷ more)) passes ∙ rw one-add refl

pub behind_stop : (p : ℕ → Bool) (b : ℕ) (more : List ℕ) → p b ≡ false → behind p (b ∷ more) ≡ b ∷ more
behind_stop p b more fails = ap (λ (v : Bool). drop (cond v (1 + prefix_len p more) 0) (b ∷ more)) fails

pub taken_more : (p : ℕ → Bool) (b : ℕ) (more : List ℕ) → p b ≡ true → take_while p (b ∷ more) ≡ b ∷ take_while p more
taken_more p b more passes = take_while-cons p b more ∙ ap (λ (v : Bool). cond v (b ∷ take_while p more) []) passes

pub taken_none : (p : ℕ → Bool) (b : ℕ) (more : List ℕ) → p b ≡ false → take_while p (b ∷ more) ≡ []
taken_none p b more fails = take_while-cons p b more ∙ ap (λ (v : Bool). cond v (b ∷ take_while p more) []) fails
