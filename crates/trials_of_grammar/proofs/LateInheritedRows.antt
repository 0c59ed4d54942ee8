-- The rows of bits of the late inherited attribute's induced dependencies.
use Rattle.std.specs.Prelude.{slice_get, IsBitSet, ◌↔◌, ◌^◌}
use Rattle.std.specs.Int.Bits.{and_zero_l, bit_and}
use Rattle.std.proofs.Common.{◌≡◌, ℕ, zero, suc, ◌<◌, ◌/◌, List, [], ◌∷◌, Some, refl, arith, ap, sym, subst, ◌∙◌}
use Rattle.std.proofs.lemmas.Option.{none-some}
use Rattle.std.proofs.lemmas.Nat.{bit_set_by_shift}
use Rattle.std.proofs.Math.Nat.{pow-suc}
use Rattle.std.proofs.Math.Nat.{div-eq_of_lt}
use Rattle.lido_base.specs.declared.ids.AttrId.{AttrId}
use Rattle.flat_grammar.specs.Dependencies.{IDS, joined, edge, direct, AreInducedRows}
use Rattle.flat_grammar.proofs.Lists.{held, contains-first}
use Rattle.trials_of_grammar.specs.ListOfItems.{symbol}
use Rattle.trials_of_grammar.specs.LateInherited.{attribute, symbols, rules, S_rule, A_rule, B_rule, S_v, S_out, out_of_S, induced_rows, empty_rows}
use Rattle.trials_of_grammar.proofs.Finite.{numbers-apart}
use Rattle.trials_of_grammar.proofs.LateInheritedVisits.{S-pair, A-none, B-none}

induced-pair : IDS rules (symbol 0) (attribute 0) (attribute 1)
induced-pair = joined {r = S_rule} {u = S_v} {v = S_out} (contains-first S_rule (A_rule ∷ B_rule ∷ [])) (edge (direct (out_of_S, (2, omega arith, refl), (0, omega arith, refl), refl))) refl refl

no-bit : {X : Type 0} (k : ℕ) → IsBitSet 0 k → X
no-bit k h = absurd (h (and_zero_l (2 ^ k)))

past-two : (k : ℕ) → 2 < 2 ^ suc (suc k)
past-two zero = omega arith
past-two (suc k) = let e = pow-suc 2 (suc (suc k)) in let l = past-two k in omega (arith, e, l)

bit-of-two : (k : ℕ) → IsBitSet 2 k → k ≡ 1
bit-of-two zero h = absurd (h refl)
bit-of-two (suc zero) h = refl
bit-of-two (suc (suc k)) h = let none : 2 / 2 ^ suc (suc k) ≡ 0 = div-eq_of_lt (past-two k) in absurd (numbers-apart 0 1 refl (sym (ap (λ n. bit_and n 1) none) ∙ (bit_set_by_shift 2 (suc (suc k))).1 h))

same-attribute : (b : AttrId) → b.0 ≡ 1 → attribute 1 ≡ b
same-attribute b e = λ i. record { 0 = sym e i }

abbrev RowIs : ℕ → ℕ → ℕ → Type 0
RowIs x a row = (b : AttrId) → IsBitSet row b.0 ↔ IDS rules (symbol x) (attribute a) b

S-v-row : RowIs 0 0 2
S-v-row b = (
  λ h. subst (λ c. IDS rules (symbol 0) (attribute 0) c) (same-attribute b (bit-of-two b.0 h)) induced-pair,
  λ h. subst (λ k. IsBitSet 2 k) (sym (S-pair (attribute 0) b h).1) (λ e. numbers-apart 2 0 refl e),
)

S-out-row : RowIs 0 1 0
S-out-row b = (λ h. no-bit b.0 h, λ h. absurd (numbers-apart 1 0 refl (S-pair (attribute 1) b h).0))

A-row : (a : ℕ) → RowIs 1 a 0
A-row a b = (λ h. no-bit b.0 h, λ h. absurd (A-none (attribute a) b h))

B-row : (a : ℕ) → RowIs 2 a 0
B-row a b = (λ h. no-bit b.0 h, λ h. absurd (B-none (attribute a) b h))

row-of : (rows : List ℕ) (x a row : ℕ) (of_x : List ℕ) → Some rows ≡ Some of_x → slice_get of_x a ≡ Some row → slice_get rows a ≡ Some row
row-of rows x a row of_x e f = ap (λ l. slice_get l a) (held e) ∙ f

each-row : (x a : ℕ) (of_x : List ℕ) (row : ℕ) → slice_get induced_rows x ≡ Some of_x → slice_get of_x a ≡ Some row → RowIs x a row
each-row zero zero of_x row e f = subst (λ r. RowIs 0 0 r) (held (row-of (2 ∷ 0 ∷ []) 0 0 row of_x e f)) S-v-row
each-row zero (suc zero) of_x row e f = subst (λ r. RowIs 0 1 r) (held (row-of (2 ∷ 0 ∷ []) 0 1 row of_x e f)) S-out-row
each-row zero (suc (suc a)) of_x row e f = absurd (none-some _ (row-of (2 ∷ 0 ∷ []) 0 (suc (suc a)) row of_x e f))
each-row (suc zero) zero of_x row e f = subst (λ r. RowIs 1 0 r) (held (row-of (0 ∷ []) 1 0 row of_x e f)) (A-row 0)
each-row (suc zero) (suc a) of_x row e f = absurd (none-some _ (row-of (0 ∷ []) 1 (suc a) row of_x e f))
each-row (suc (suc zero)) zero of_x row e f = subst (λ r. RowIs 2 0 r) (held (row-of (0 ∷ []) 2 0 row of_x e f)) (B-row 0)
each-row (suc (suc zero)) (suc a) of_x row e f = absurd (none-some _ (row-of (0 ∷ []) 2 (suc a) row of_x e f))
each-row (suc (suc (suc x))) a of_x row e f = absurd (none-some _ e)

pub rows : AreInducedRows symbols rules induced_rows
rows = (refl, λ x a b of_x row e f. each-row x.0 a.0 of_x row e f b)

pub bit-missing : ¬ AreInducedRows symbols rules empty_rows
bit-missing h = no-bit 1 ((h.1 (symbol 0) (attribute 0) (attribute 1) (0 ∷ 0 ∷ []) 0 refl refl).1 induced-pair)
