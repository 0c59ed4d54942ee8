-- Graphs whose tests agree.
use Rattle.std.specs.Prelude.{Bool, IsTrue, ◌↔◌}
use Rattle.std.proofs.Common.{ℕ, List, [], ◌∷◌}
use Rattle.lido_base.specs.Reach.{Reaches, source, edge, IsPath, IsPathFrom, IsLeastPath}

module _ (a b : ℕ → Bool) (e f : ℕ → ℕ → Bool) (sources : (x : ℕ) → IsTrue (a x) → IsTrue (b x)) (edges : (x y : ℕ) → IsTrue (e x y) → IsTrue (f x y)) where
  pub agree-Reaches : (x : ℕ) → Reaches a e x → Reaches b f x
  agree-Reaches x (source h) = source (sources x h)
  agree-Reaches x (edge {c = c} h r) = edge (edges x c h) (agree-Reaches c r)

  pub agree-path : (path : List ℕ) → IsPath a e path → IsPath b f path
  agree-path [] p = absurd p
  agree-path (x ∷ []) p = sources x p
  agree-path (x ∷ y ∷ more) p = (edges x y p.0, agree-path (y ∷ more) p.1)

  pub agree-from : (s t : ℕ → Bool) → ((x : ℕ) → IsTrue (s x) → IsTrue (t x)) → (path : List ℕ) → IsPathFrom s a e path → IsPathFrom t b f path
  agree-from s t starts [] p = absurd p
  agree-from s t starts (x ∷ more) p = (starts x p.0, agree-path (x ∷ more) p.1)

pub agree-least : (s t a b : ℕ → Bool) (e f : ℕ → ℕ → Bool) → ((x : ℕ) → IsTrue (s x) ↔ IsTrue (t x)) → ((x : ℕ) → IsTrue (a x) ↔ IsTrue (b x)) → ((x y : ℕ) → IsTrue (e x y) ↔ IsTrue (f x y))
    → (path : List ℕ) → IsLeastPath s a e path → IsLeastPath t b f path
agree-least s t a b e f starts sources edges path p = record {
  is = agree-from a b e f (λ x. (sources x).0) (λ x y. (edges x y).0) s t (λ x. (starts x).0) path p.is;
  first = λ others q. p.first others (agree-from b a f e (λ x. (sources x).1) (λ x y. (edges x y).1) t s (λ x. (starts x).1) others q);
}
