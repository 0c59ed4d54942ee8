-- The front of a text whose bytes pass a test.
use Rattle.std.proofs.Common.{◌≡◌, ℕ, ◌≤◌, Bool, List, length, take, sym, ap, ◌∙◌, arith}
use Rattle.std.specs.List.{prefix_len, take_while}
use Rattle.std.proofs.lemmas.List.{take-take, length-take}
use Rattle.std.proofs.lemmas.List.Folds.{length-prefix_len}
use Rattle.lido_lexer.specs.Bytes.{is_octal, octal_front}

-- as many are taken as pass
pub length_take_while : (p : ℕ → Bool) (xs : List ℕ) → length (take_while p xs) ≡ prefix_len p xs
length_take_while p xs = length-prefix_len p xs

octal_few : (bytes : List ℕ) → prefix_len is_octal (take 3 bytes) ≤ 3
octal_few bytes = omega (arith, length-prefix_len is_octal (take 3 bytes), length-take (prefix_len is_octal (take 3 bytes)) (take 3 bytes), length-take 3 bytes)

-- the octal digits in front are as many bytes in front
pub octal_taken : (bytes : List ℕ) → take (length (octal_front bytes)) bytes ≡ octal_front bytes
octal_taken bytes =
    ap (λ (n : ℕ). take n bytes) (length-prefix_len is_octal (take 3 bytes))
    ∙ sym (take-take (prefix_len is_octal (take 3 bytes)) 3 bytes (octal_few bytes))

pub octal_within : (bytes : List ℕ) → length (octal_front bytes) ≤ length bytes
octal_within bytes = omega (arith, length-take (prefix_len is_octal (take 3 bytes)) (take 3 bytes), length-take 3 bytes)
