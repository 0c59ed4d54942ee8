-- What is gathered from below a node comes from its children alone.
use Rattle.std.specs.Prelude.{Contains, Bool, true, false, map, filter, if◌then◌else◌}
use Rattle.std.proofs.Common.{◌≡◌, ℕ, zero, suc, ◌<◌, List, [], ◌∷◌, length, Option, Some, None, refl, arith, ap}
use Rattle.lido_base.specs.Plain.{Plain, Void}
use Rattle.lido_base.specs.Tree.{Tree, children, AsksBelow, IsTree}
use Rattle.lido_base.proofs.TreeLemmas.{from_children-step, children_behind}
use Rattle.lido_syntax.specs.declared.spec.Spec.{Spec}
use Rattle.lido_syntax.specs.declared.spec.Cons.{Cons}
use Rattle.lido_syntax.specs.declared.spec.With.{With}
use Rattle.lido_syntax.specs.Assignment.{Assignment, Attribute, value_at}
use Rattle.lido_base.specs.Environment.{Environment}
use Rattle.lido_syntax.specs.Sets.{Sets, is_shield}
use Rattle.lido_syntax.specs.Including.{listed, symbol_at}
use Rattle.lido_syntax.specs.Constituents.{weight_of, weigh, source_weight, below, combined, call}

-- two functions that agree on a list agree on what a test lets through
map-filter : {X : Type 0} (f g : ℕ → X) (p : ℕ → Bool) (xs : List ℕ) → ((c : ℕ) → Contains xs c → f c ≡ g c) → map f (filter p xs) ≡ map g (filter p xs)
map-filter f g p [] same = refl
map-filter f g p (x ∷ xs) same = go (p x) (same x (zero, (omega arith), refl)) (map-filter f g p xs (λ c m. same c (suc m.0, (omega arith), m.2)))
  where
    go : (b : Bool) → f x ≡ g x → map f (filter p xs) ≡ map g (filter p xs) → map f (if b then x ∷ filter p xs else filter p xs) ≡ map g (if b then x ∷ filter p xs else filter p xs)
    go true e more = cc
    go false e more = more

module _ (spec : Spec) (sets : Sets spec) (env : Environment) (t : Tree Plain) (A : Assignment) (k : Cons) (with : With) where
  below-same : (n : ℕ) (f g : ℕ → Plain) → ((c : ℕ) → Contains (children t n) c → f c ≡ g c) → below spec sets env t A k with f n ≡ below spec sets env t A k with g n
  below-same n f g same = ap (combined spec sets env t A k with n) (map-filter f g (λ c. sets.reaches k (symbol_at spec sets t c)) (children t n) same)

  weigh_asks : AsksBelow t (weigh spec sets env t A k with)
  weigh_asks n f g same = go (listed spec sets k.pairs (symbol_at spec sets t n)) (is_shield spec sets.inherits k (symbol_at spec sets t n)) (below-same n f g same)
    where
      go : (o : Option ℕ) (b : Bool) → below spec sets env t A k with f n ≡ below spec sets env t A k with g n
          → elim o as (λ _. Plain) [ Some a ↦ source_weight spec sets env t A k with f n a | None ↦ if b then call spec sets env t A k with with.null n [] else below spec sets env t A k with f n ]
          ≡ elim o as (λ _. Plain) [ Some a ↦ source_weight spec sets env t A k with g n a | None ↦ if b then call spec sets env t A k with with.null n [] else below spec sets env t A k with g n ]
      go (Some a) b e = ap (λ z. let own = call spec sets env t A k with with.single n (value_at A n (Attribute a) ∷ []) in if is_shield spec sets.inherits k (symbol_at spec sets t n) then own else call spec sets env t A k with with.comb n (own ∷ z ∷ [])) e
      go None true e = refl
      go None false e = e

  -- the weight obeys its equation at each node of a tree
  pub weight_of-step : IsTree t → (n : ℕ) → n < length t → weight_of spec sets env t A k with n ≡ weigh spec sets env t A k with (weight_of spec sets env t A k with) n
  unfolding weight_of
  weight_of-step w n h = from_children-step t Void (weigh spec sets env t A k with) weigh_asks (children_behind t w) n h
