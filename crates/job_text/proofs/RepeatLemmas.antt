-- A list several times over.
use Rattle.std.proofs.Common.{◌≡◌, ℕ, zero, suc, ◌+◌, List, ◌++◌, append_assoc, append-nil, add-one, ap, sym, ◌∙◌}
use Rattle.std.specs.List.{repeat}

repeat-suc : (n : ℕ) (xs : List ℕ) → repeat n xs ++ xs ≡ xs ++ repeat n xs
repeat-suc zero xs = sym (append-nil xs)
repeat-suc (suc n) xs = append_assoc xs (repeat n xs) xs ∙ ap (λ ys. xs ++ ys) (repeat-suc n xs)

-- once more is the list behind the others
pub repeat-next : (n : ℕ) (xs : List ℕ) → repeat (n + 1) xs ≡ repeat n xs ++ xs
repeat-next n xs = rw add-one (sym (repeat-suc n xs))
