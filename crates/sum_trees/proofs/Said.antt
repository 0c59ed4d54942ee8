-- What digits say.
use Rattle.std.proofs.Common.{◌≡◌, ℕ, ◌+◌, ◌-◌, ◌*◌, ◌<◌, ◌≤◌, ◌^◌, List, [], ◌∷◌, length, get_or, drop, refl, ap, sym, ◌∙◌, arith, add-one}
use Rattle.std.proofs.Math.Seq.{drop-cons}
use Rattle.std.proofs.lemmas.List.{drop_all}
use Rattle.sum_trees.specs.Bytes.{said_after}

pub said_grows : (n : ℕ) (bytes : List ℕ) → n ≤ said_after n bytes
said_grows n [] = omega arith
said_grows n (b ∷ bytes) = omega (arith, said_grows (n * 10 + (b - 48)) bytes)

pub said_more : (n i : ℕ) (bytes : List ℕ) → i < length bytes → said_after n (drop i bytes) ≡ said_after (n * 10 + (get_or bytes i 0 - 48)) (drop (i + 1) bytes)
said_more n i bytes less = rw (add-one, drop-cons bytes i 0) refl

pub said_rest : (n i : ℕ) (bytes : List ℕ) → length bytes ≤ i → said_after n (drop i bytes) ≡ n
said_rest n i bytes past = rw (drop_all i bytes past) refl

-- one digit more makes a large number too large
pub too_large : (n i : ℕ) (bytes : List ℕ) → i < length bytes → 2 ^ 60 < n → 2 ^ 63 < said_after n (drop i bytes)
too_large n i bytes less large = rw (said_more n i bytes less) (omega (arith, said_grows (n * 10 + (get_or bytes i 0 - 48)) (drop (i + 1) bytes)))

pub said_step : (n i d total : ℕ) (bytes : List ℕ) → i < length bytes → d ≡ get_or bytes i 0 - 48 → said_after n (drop i bytes) ≡ total
    → said_after (n * 10 + d) (drop (i + 1) bytes) ≡ total
said_step n i d total bytes less digit before =
    ap (λ (k : ℕ). said_after (n * 10 + k) (drop (i + 1) bytes)) digit ∙ sym (said_more n i bytes less) ∙ before
