-- Attribute occurrences that compare equal are one.
use Rattle.std.proofs.Common.{◌≡◌, ℕ, ◌<◌, ◌⊎◌, inl, inr, Bool, true, false, true≢false, refl, sym, ap, subst, ◌∙◌}
use Rattle.std.specs.declared.cmp.Ordering.{Ordering}
use Rattle.std.specs.declared.cmp.Ordering.TheVariants.{Less, Equal, Greater}
use Rattle.std.specs.Ordering.{is_eq, nat_cmp, ordering_then, MatchOrdering}
use Rattle.std.specs.Cmp.{ranks, nat_cmp_is}
use Rattle.flat_grammar.specs.declared.flat.Occ.{Occ}
use Rattle.visit_sequences.specs.Order.{compare_occurrences}

by-both : (u v : Occ) → compare_occurrences u v ≡ ordering_then (nat_cmp u.occ v.occ) (nat_cmp u.attr.0 v.attr.0)
by-both u v = refl

equal-numbers : (a b : ℕ) → nat_cmp a b ≡ Equal → a ≡ b
equal-numbers a b e = subst (λ r. MatchOrdering r (a < b) (a ≡ b) (b < a)) e (ranks a b)

at : ℕ → ℕ → Occ
at k a = record { occ = k; attr = record { 0 = a } }

one-occurrence : (k l a b : ℕ) → k ≡ l → a ≡ b → at k a ≡ at l b
one-occurrence k l a b e f = ap (λ (n : ℕ). at n a) e ∙ ap (λ (n : ℕ). at l n) f

pub equal-occurrences : (u v : Occ) → is_eq (compare_occurrences u v) ≡ true → u ≡ v
unfolding at
equal-occurrences u v h = go (nat_cmp u.occ v.occ) (nat_cmp u.attr.0 v.attr.0) refl refl h
  where
    go : (first second : Ordering) → nat_cmp u.occ v.occ ≡ first → nat_cmp u.attr.0 v.attr.0 ≡ second → is_eq (ordering_then first second) ≡ true → u ≡ v
    go Equal Equal e f h = one-occurrence u.occ v.occ u.attr.0 v.attr.0 (equal-numbers u.occ v.occ e) (equal-numbers u.attr.0 v.attr.0 f)
    go Equal Less e f h = absurd (true≢false (sym h))
    go Equal Greater e f h = absurd (true≢false (sym h))
    go Less second e f h = absurd (true≢false (sym h))
    go Greater second e f h = absurd (true≢false (sym h))

same-number : (a : ℕ) → nat_cmp a a ≡ Equal
same-number a = sym (nat_cmp_is a a Equal refl)

pub equal-itself : (u : Occ) → is_eq (compare_occurrences u u) ≡ true
equal-itself u = ap (λ (o : Ordering). is_eq (ordering_then o (nat_cmp u.attr.0 u.attr.0))) (same-number u.occ) ∙ ap is_eq (same-number u.attr.0)

-- two occurrences are one, or they compare unequal
pub one-or-apart : (u v : Occ) → (u ≡ v) ⊎ ((u ≡ v → ⊥) × (is_eq (compare_occurrences u v) ≡ false))
one-or-apart u v = go (is_eq (compare_occurrences u v)) refl
  where
    go : (b : Bool) → is_eq (compare_occurrences u v) ≡ b → (u ≡ v) ⊎ ((u ≡ v → ⊥) × (is_eq (compare_occurrences u v) ≡ false))
    go true h = inl (equal-occurrences u v h)
    go false h = inr ((λ e. true≢false (sym (equal-itself u) ∙ (ap (λ (w : Occ). is_eq (compare_occurrences u w)) e ∙ h))), h)
