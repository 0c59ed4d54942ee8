use Rattle.std.specs.Prelude.{◌≡◌, ℕ, [], ◌∷◌, AllPairs, refl}
use Rattle.std.proofs.Common.{arith}
use Rattle.std.proofs.lemmas.List.Elements.{All-cons, All-nil}
use Rattle.std.proofs.lemmas.List.Kept.{AllPairs-cons}
use Rattle.lido_base.proofs.TreeLemmas.{contains-test}
use Rattle.lido_syntax.specs.Symbols.{IsRoot}
use Rattle.trials_of_syntax.proofs.Members.{every}
use Rattle.trials_of_tables.specs.Faulty.{two_roots, S, X}
use Rattle.trials_of_tables.proofs.faulty.root_not_one.Goals as goal

once : AllPairs (λ (s q : ℕ). s ≡ q → ⊥) (S ∷ X ∷ [])
once = AllPairs-cons (λ (s q : ℕ). s ≡ q → ⊥) S (X ∷ []) (All-cons (λ q. S ≡ q → ⊥) X [] (λ e. cc) (All-nil (λ q. S ≡ q → ⊥)))
    (AllPairs-cons (λ (s q : ℕ). s ≡ q → ⊥) X [] (All-nil (λ q. X ≡ q → ⊥)) (λ i j d a b. absurd (omega (arith, b))))

pub returns : goal.returns
returns c = (
  S ∷ X ∷ [],
  record {
    each = λ s m. every (IsRoot two_roots) (S ∷ X ∷ []) ((refl, (λ h. cc)), ((refl, (λ h. cc)), tt)) s m;
    all = λ s h. contains-test s (S ∷ X ∷ []) h.0;
    once = once;
  },
  (λ e. cc),
  refl,
)
