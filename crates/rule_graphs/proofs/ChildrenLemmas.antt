-- The edges of a rule, and of one rule more.
use Rattle.std.specs.Prelude.{slice_get, slice_set, map, Contains, Bool, true, false, IsTrue, ◌↔◌}
use Rattle.std.proofs.Common.{◌≡◌, ℕ, ◌+◌, ◌<◌, ◌≤◌, ◌⊎◌, inl, inr, List, [], ◌∷◌, ◌++◌, take, take_all, length, Some, sym, ap, subst, ◌∙◌, arith}
use Rattle.std.proofs.lemmas.Bool.{cases_lt}
use Rattle.lido_base.specs.declared.ids.SymId.{SymId}
use Rattle.lido_base.proofs.Lists.{map-contains, contains-map, contains-nil, place-contains}
use Rattle.flat_grammar.specs.declared.flat.FlatRule.{FlatRule}
use Rattle.least_paths.specs.Graph.{is_in, IsEdge, IsGraph, has_edge}
use Rattle.least_paths.proofs.GraphLemmas.{held, push-edge, next-cases, next-old, next-here, edge-test, test-edge}
use Rattle.rule_graphs.specs.Children.{IsRuleEdge}

abbrev pub numbers : List SymId → List ℕ
numbers right = map (λ (s : SymId). s.0) right

-- one symbol of the right side more
pub rule-next : (old mid : List (List ℕ)) (new row : List ℕ) (a k : ℕ) (s : SymId) (right : List SymId) → slice_get right k ≡ Some s → slice_get mid a ≡ Some row → new ≡ row ++ s.0 ∷ []
    → ((x y : ℕ) → IsEdge mid x y ↔ (IsEdge old x y ⊎ ((a ≡ x) × Contains (numbers (take k right)) y)))
    → (x y : ℕ) → IsEdge (slice_set mid a new) x y ↔ (IsEdge old x y ⊎ ((a ≡ x) × Contains (numbers (take (k + 1) right)) y))
rule-next old mid new row a k s right at got pushed are x y = subst (λ (r : List ℕ). IsEdge (slice_set mid a r) x y ↔ (IsEdge old x y ⊎ ((a ≡ x) × Contains (numbers (take (k + 1) right)) y))) (sym pushed)
    ((λ m. there ((push-edge mid a s.0 row got x y).0 m)), (λ h. (push-edge mid a s.0 row got x y).1 (here h)))
  where
    there : IsEdge mid x y ⊎ ((a ≡ x) × (y ≡ s.0)) → IsEdge old x y ⊎ ((a ≡ x) × Contains (numbers (take (k + 1) right)) y)
    there (inl m) = elim ((are x y).0 m) [
      | inl h ↦ inl h
      | inr h ↦ let c = contains-map (λ (z : SymId). z.0) (take k right) y h.1 in inr (h.0, subst (λ z. Contains (numbers (take (k + 1) right)) z) c.2 (map-contains (λ (z : SymId). z.0) (take (k + 1) right) c.0 (next-old right k s c.0 at c.1)))
    ]
    there (inr h) = inr (h.0, subst (λ z. Contains (numbers (take (k + 1) right)) z) (sym h.1) (map-contains (λ (z : SymId). z.0) (take (k + 1) right) s (next-here right k s at)))

    here : IsEdge old x y ⊎ ((a ≡ x) × Contains (numbers (take (k + 1) right)) y) → IsEdge mid x y ⊎ ((a ≡ x) × (y ≡ s.0))
    here (inl m) = inl ((are x y).1 (inl m))
    here (inr h) = let c = contains-map (λ (z : SymId). z.0) (take (k + 1) right) y h.1 in elim (next-cases right k s c.0 at c.1) [
      | inl m ↦ inl ((are x y).1 (inr (h.0, subst (λ z. Contains (numbers (take k right)) z) c.2 (map-contains (λ (z : SymId). z.0) (take k right) c.0 m))))
      | inr e ↦ inr (h.0, sym c.2 ∙ ap (λ (z : SymId). z.0) (sym e))
    ]

pub rule-none : (old : List (List ℕ)) (a x y : ℕ) (right : List SymId) → IsEdge old x y ↔ (IsEdge old x y ⊎ ((a ≡ x) × Contains (numbers (take 0 right)) y))
rule-none old a x y right = ((λ m. inl m), (λ h. elim h [ inl m ↦ m | inr k ↦ absurd (contains-nil y k.1) ]))

pub rule-all : (old new : List (List ℕ)) (a k : ℕ) (right all : List SymId) → length right ≤ k → right ≡ all
    → ((x y : ℕ) → IsEdge new x y ↔ (IsEdge old x y ⊎ ((a ≡ x) × Contains (numbers (take k right)) y))) → (x y : ℕ) → IsEdge new x y ↔ (IsEdge old x y ⊎ ((a ≡ x) × Contains (numbers all) y))
rule-all old new a k right all l same are = subst (λ (ss : List SymId). (x y : ℕ) → IsEdge new x y ↔ (IsEdge old x y ⊎ ((a ≡ x) × Contains (numbers ss) y))) (take_all k right l ∙ same) are

module _ (rules : List FlatRule) (closed : List Bool) (n : ℕ) where
  -- a rule more
  more : (x y : ℕ) → IsRuleEdge rules closed n x y → IsRuleEdge rules closed (n + 1) x y
  more x y e = record { i = e.i; rule = e.rule; of_rule = e.of_rule; below = let l = e.below in omega arith; is_open = e.is_open; left = e.left; right = e.right }

  less : (x y : ℕ) (e : IsRuleEdge rules closed (n + 1) x y) → e.i < n → IsRuleEdge rules closed n x y
  less x y e l = record { i = e.i; rule = e.rule; of_rule = e.of_rule; below = l; is_open = e.is_open; left = e.left; right = e.right }

  pub open-next : (old new : List (List ℕ)) (r : FlatRule) → slice_get rules n ≡ Some r → is_in closed n ≡ false → ((x y : ℕ) → IsEdge old x y ↔ IsRuleEdge rules closed n x y)
      → ((x y : ℕ) → IsEdge new x y ↔ (IsEdge old x y ⊎ ((r.left.0 ≡ x) × Contains (numbers r.right) y))) → (x y : ℕ) → IsEdge new x y ↔ IsRuleEdge rules closed (n + 1) x y
  open-next old new r at is are news x y = (to, from)
    where
      to : IsEdge new x y → IsRuleEdge rules closed (n + 1) x y
      to m = elim ((news x y).0 m) [
        | inl h ↦ more x y ((are x y).0 h)
        | inr h ↦ record { i = n; rule = r; of_rule = at; below = omega arith; is_open = λ t. absurd (cc); left = h.0; right = h.1 }
      ]

      from : IsRuleEdge rules closed (n + 1) x y → IsEdge new x y
      from e = elim (cases_lt e.i n) [
        | inl l ↦ (news x y).1 (inl ((are x y).1 (less x y e l)))
        | inr l ↦ let same : e.i ≡ n = let b = e.below in omega arith in
            let rule : e.rule ≡ r = held (sym e.of_rule ∙ ap (λ i. slice_get rules i) same ∙ at) in
            (news x y).1 (inr (ap (λ (q : FlatRule). q.left.0) (sym rule) ∙ e.left, subst (λ (q : FlatRule). Contains (numbers q.right) y) rule e.right))
      ]

  pub closed-next : (old : List (List ℕ)) → is_in closed n ≡ true → ((x y : ℕ) → IsEdge old x y ↔ IsRuleEdge rules closed n x y) → (x y : ℕ) → IsEdge old x y ↔ IsRuleEdge rules closed (n + 1) x y
  closed-next old is are x y = ((λ m. more x y ((are x y).0 m)), from)
    where
      from : IsRuleEdge rules closed (n + 1) x y → IsEdge old x y
      from e = elim (cases_lt e.i n) [
        | inl l ↦ (are x y).1 (less x y e l)
        | inr l ↦ absurd (e.is_open (let same : n ≡ e.i = let b = e.below in omega arith in subst (λ i. IsTrue (is_in closed i)) same is))
      ]

-- all rules
pub all-rules : (rules : List FlatRule) (closed : List Bool) (k n : ℕ) (graph : List (List ℕ)) → k ≡ n → ((x y : ℕ) → IsEdge graph x y ↔ IsRuleEdge rules closed k x y)
    → (x y : ℕ) → IsTrue (has_edge graph x y) ↔ IsRuleEdge rules closed n x y
all-rules rules closed k n graph same are x y = (
  (λ h. subst (λ m. IsRuleEdge rules closed m x y) same ((are x y).0 (edge-test graph x y h))),
  (λ e. test-edge graph x y ((are x y).1 (subst (λ m. IsRuleEdge rules closed m x y) (sym same) e))),
)

pub graph-of : (rules : List FlatRule) (closed : List Bool) (k count : ℕ) (graph : List (List ℕ)) → length graph ≡ count → ((x y : ℕ) → IsEdge graph x y ↔ IsRuleEdge rules closed k x y)
    → ((r : FlatRule) (s : SymId) → Contains rules r → Contains r.right s → s.0 < count) → IsGraph graph
graph-of rules closed k count graph size are inside x y m =
    let e = (are x y).0 m in
    let c = contains-map (λ (z : SymId). z.0) e.rule.right y e.right in
    let l = inside e.rule c.0 (place-contains rules e.i e.rule e.of_rule) c.1 in
    omega (arith, l, c.2, size)
