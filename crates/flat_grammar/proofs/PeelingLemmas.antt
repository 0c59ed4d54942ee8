-- Induced dependencies are transitive, and no more is peeled behind a pair of classes without attributes.
use Rattle.std.specs.Prelude.{◌*◌, Contains}
use Rattle.std.proofs.Common.{◌≡◌, ℕ, zero, suc, inl, inr, List, refl, sym, ap, subst, ◌∙◌, arith}
use Rattle.lido_base.specs.declared.ids.SymId.{SymId}
use Rattle.lido_base.specs.declared.ids.AttrId.{AttrId}
use Rattle.lido_base.specs.declared.kinds.Kind.{Kind}
use Rattle.lido_base.specs.declared.kinds.Kind.TheVariants.{Synthesized, Inherited}
use Rattle.flat_grammar.specs.declared.flat.Occ.{Occ}
use Rattle.flat_grammar.specs.declared.flat.FlatSymbol.{FlatSymbol}
use Rattle.flat_grammar.specs.declared.flat.FlatRule.{FlatRule}
use Rattle.flat_grammar.specs.Rules.{symbol_at}
use Rattle.flat_grammar.specs.Dependencies.{IDP, IDS, Joins, induced, edge, further, joined}
use Rattle.flat_grammar.specs.Partition.{IsPeeled, IsClosedSet, kind_of_class}

module _ (rules : List FlatRule) where
  Joins-append : {r : FlatRule} {u v w : Occ} → Joins rules r u v → IDP rules r v w → Joins rules r u w
  Joins-append (edge e) last = further e (edge last)
  Joins-append (further e more) last = further e (Joins-append more last)

  -- what comes before an attribute comes before what that comes before
  pub IDS-transitive : {x : SymId} {a b c : AttrId} → IDS rules x a b → IDS rules x b c → IDS rules x a c
  IDS-transitive {x} {a} {b} {c} (joined {r = r} {u = u} {v = v} among path same at) next =
      joined {r = r} {u = u} {v = record { occ = v.occ; attr = c }} among (Joins-append path (induced {u = v} {v = record { occ = v.occ; attr = c }} refl (ap (symbol_at r) (sym same) ∙ at) next)) same at

pub even-kind : (j : ℕ) → kind_of_class (2 * j) ≡ Synthesized
even-kind zero = refl
even-kind (suc j) = let e : 2 * suc j ≡ suc (suc (2 * j)) = omega arith in subst (λ k. kind_of_class k ≡ Synthesized) (sym e) (even-kind j)

pub odd-kind : (j : ℕ) → kind_of_class (suc (2 * j)) ≡ Inherited
odd-kind zero = refl
odd-kind (suc j) = let e : suc (2 * suc j) ≡ suc (suc (suc (2 * j))) = omega arith in subst (λ k. kind_of_class k ≡ Inherited) (sym e) (odd-kind j)

module _ (symbols : List FlatSymbol) (rules : List FlatRule) (x : SymId) where
  -- a closed set stays closed where more is peeled
  pub closed-more : (P Q : AttrId → Type 0) (kind : Kind) (set : List AttrId) → ((a : AttrId) → P a → Q a) → IsClosedSet symbols rules x P kind set → IsClosedSet symbols rules x Q kind set
  closed-more P Q kind set more closed a m = ((closed a m).0, λ b d. elim ((closed a m).1 b d) [ inl p ↦ inl (more b p) | inr q ↦ inr q ])

  -- a pair of classes without attributes is the last
  pub last-pair : (n : ℕ) → ((a : AttrId) → IsPeeled symbols rules x (suc (suc (2 * n))) a → IsPeeled symbols rules x (2 * n) a) → (k : ℕ) (a : AttrId) → IsPeeled symbols rules x k a → IsPeeled symbols rules x (2 * n) a
  last-pair n stays k a h = up k a h
    where
      one : (kind : Kind) (xs : List AttrId) → IsClosedSet symbols rules x (IsPeeled symbols rules x (2 * n)) kind xs → (a : AttrId) → Contains xs a → IsPeeled symbols rules x (2 * n) a
      one Synthesized xs c a m = stays a (inl (inr (xs, m, subst (λ kind. IsClosedSet symbols rules x (IsPeeled symbols rules x (2 * n)) kind xs) (sym (even-kind n)) c)))
      one Inherited xs c a m = stays a (inr (
        xs,
        m,
        subst (λ kind. IsClosedSet symbols rules x (IsPeeled symbols rules x (suc (2 * n))) kind xs) (sym (odd-kind n))
            (closed-more (IsPeeled symbols rules x (2 * n)) (IsPeeled symbols rules x (suc (2 * n))) Inherited xs (λ b p. inl p) c),
      ))

      up : (k : ℕ) (a : AttrId) → IsPeeled symbols rules x k a → IsPeeled symbols rules x (2 * n) a
      up zero a h = absurd h
      up (suc k) a (inl h) = up k a h
      up (suc k) a (inr (xs, m, c)) = one (kind_of_class k) xs (closed-more (IsPeeled symbols rules x k) (IsPeeled symbols rules x (2 * n)) (kind_of_class k) xs (up k) c) a m
