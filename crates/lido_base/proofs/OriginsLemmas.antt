-- The order of origins is a linear order.
use Rattle.std.specs.Prelude.{◌≡◌, ℕ, ◌<◌, ◌⊎◌}
use Rattle.std.proofs.Common.{inl, inr, refl, arith, sym}
use Rattle.lido_base.specs.declared.value.BadKind.{BadKind}
use Rattle.lido_base.specs.declared.value.BadKind.TheVariants.{Overflow, DivideByZero, TextTooLong}
use Rattle.lido_base.specs.declared.value.Origin.{Origin}
use Rattle.lido_base.specs.Origins.{rank, IsAtMost}

-- of two numbers one is below, or they are equal
three : (a b : ℕ) → (a < b) ⊎ ((a ≡ b) ⊎ (b < a))
three a b = grind arith

pub rank-same : (a b : BadKind) → rank a ≡ rank b → a ≡ b
rank-same Overflow Overflow e = refl
rank-same Overflow DivideByZero e = absurd (omega arith)
rank-same Overflow TextTooLong e = absurd (omega arith)
rank-same DivideByZero Overflow e = absurd (omega arith)
rank-same DivideByZero DivideByZero e = refl
rank-same DivideByZero TextTooLong e = absurd (omega arith)
rank-same TextTooLong Overflow e = absurd (omega arith)
rank-same TextTooLong DivideByZero e = absurd (omega arith)
rank-same TextTooLong TextTooLong e = refl

pub total : (o p : Origin) → IsAtMost o p ⊎ IsAtMost p o
total o p = by_node (three o.node p.node)
  where
    by_kind : (o.node ≡ p.node) → (o.comp ≡ p.comp) → (rank o.kind < rank p.kind) ⊎ ((rank o.kind ≡ rank p.kind) ⊎ (rank p.kind < rank o.kind)) → IsAtMost o p ⊎ IsAtMost p o
    by_kind n c (inl k) = inl (inr (n, inr (c, (omega arith))))
    by_kind n c (inr (inl k)) = inl (inr (n, inr (c, (omega arith))))
    by_kind n c (inr (inr k)) = inr (inr (sym n, inr (sym c, (omega arith))))

    by_comp : (o.node ≡ p.node) → (o.comp < p.comp) ⊎ ((o.comp ≡ p.comp) ⊎ (p.comp < o.comp)) → IsAtMost o p ⊎ IsAtMost p o
    by_comp n (inl c) = inl (inr (n, inl c))
    by_comp n (inr (inl c)) = by_kind n c (three (rank o.kind) (rank p.kind))
    by_comp n (inr (inr c)) = inr (inr (sym n, inl c))

    by_node : (o.node < p.node) ⊎ ((o.node ≡ p.node) ⊎ (p.node < o.node)) → IsAtMost o p ⊎ IsAtMost p o
    by_node (inl n) = inl (inl n)
    by_node (inr (inl n)) = by_comp n (three o.comp p.comp)
    by_node (inr (inr n)) = inr (inl n)

pub transitive : (o p q : Origin) → IsAtMost o p → IsAtMost p q → IsAtMost o q
transitive o p q (inl a) (inl b) = inl (omega arith)
transitive o p q (inl a) (inr (b, h)) = inl (omega arith)
transitive o p q (inr (a, g)) (inl b) = inl (omega arith)
transitive o p q (inr (a, inl g)) (inr (b, inl h)) = inr ((omega arith), inl (omega arith))
transitive o p q (inr (a, inl g)) (inr (b, inr (h, k))) = inr ((omega arith), inl (omega arith))
transitive o p q (inr (a, inr (g, i))) (inr (b, inl h)) = inr ((omega arith), inl (omega arith))
transitive o p q (inr (a, inr (g, i))) (inr (b, inr (h, k))) = inr ((omega arith), inr ((omega arith), (omega arith)))

pub antisymmetric : (o p : Origin) → IsAtMost o p → IsAtMost p o → o ≡ p
antisymmetric o p (inl a) (inl b) = absurd (omega arith)
antisymmetric o p (inl a) (inr (b, h)) = absurd (omega arith)
antisymmetric o p (inr (a, g)) (inl b) = absurd (omega arith)
antisymmetric o p (inr (a, inl g)) (inr (b, inl h)) = absurd (omega arith)
antisymmetric o p (inr (a, inl g)) (inr (b, inr (h, k))) = absurd (omega arith)
antisymmetric o p (inr (a, inr (g, i))) (inr (b, inl h)) = absurd (omega arith)
antisymmetric o p (inr (a, inr (g, i))) (inr (b, inr (h, k))) = same (rank-same o.kind p.kind (omega arith))
  where
    same : o.kind ≡ p.kind → o ≡ p
    same e = λ j. record { node = a j; comp = g j; kind = e j }
