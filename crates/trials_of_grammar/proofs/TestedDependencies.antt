-- Tests that lists of edges are closed, so that they hold the induced dependencies.
use Rattle.std.specs.Prelude.{Contains, nat_eq, Bool, true, false, IsTrue, ◌&&◌, ◌||◌, length}
use Rattle.std.specs.List.{list_all, list_any, AllByRecursion}
use Rattle.std.proofs.Common.{◌≡◌, ℕ, ◌⊎◌, inl, inr, List, [], ◌∷◌, Option, Some, None, refl, sym, subst, eqb-true, eq-eqb}
use Rattle.std.proofs.lemmas.Option.{slice_get_within}
use Rattle.std.proofs.lemmas.List.Elements.{All-contains}
use Rattle.lido_base.specs.declared.ids.SymId.{SymId}
use Rattle.lido_base.specs.declared.ids.AttrId.{AttrId}
use Rattle.flat_grammar.specs.declared.flat.Occ.{Occ}
use Rattle.flat_grammar.specs.declared.flat.FlatRule.{FlatRule}
use Rattle.flat_grammar.specs.declared.flat.FlatComp.{FlatComp}
use Rattle.flat_grammar.specs.Rules.{symbols_of, symbol_at, dependencies}
use Rattle.flat_grammar.specs.WellFormed.{is_same_occ}
use Rattle.flat_grammar.specs.Dependencies.{DP, IDS, IsClosed}
use Rattle.flat_grammar.proofs.DependenciesLemmas.{IDS-least}
use Rattle.flat_grammar.proofs.Lists.{contains-first, contains-later}
use Rattle.trials_of_grammar.proofs.Finite.{never, both, all-of, same-occurrence}
use Rattle.trials_of_grammar.proofs.TestedGrammars.{all-tested}
use Rattle.trials_of_grammar.proofs.TestedTrees.{below, below-at, implies}
use Rattle.trials_of_grammar.proofs.TestedPlans.{implied, same-true}

either : (a b : Bool) → IsTrue (a || b) → IsTrue a ⊎ IsTrue b
either true b h = inl refl
either false b h = inr h

abbrev pub is_edge : List (Occ × Occ) → Occ → Occ → Bool
is_edge edges u v = list_any (λ (e : Occ × Occ). is_same_occ e.0 u && is_same_occ e.1 v) edges

abbrev pub is_pair : List (ℕ × ℕ) → AttrId → AttrId → Bool
is_pair pairs a b = list_any (λ (e : ℕ × ℕ). nat_eq e.0 a.0 && nat_eq e.1 b.0) pairs

edge-listed : (edges : List (Occ × Occ)) (u v : Occ) → IsTrue (is_edge edges u v) → Contains edges (u, v)
edge-listed [] u v h = never h
edge-listed (e ∷ edges) u v h = go (either _ _ h) (edge-listed edges u v)
  where
    go : IsTrue (is_same_occ e.0 u && is_same_occ e.1 v) ⊎ IsTrue (is_edge edges u v) → (IsTrue (is_edge edges u v) → Contains edges (u, v)) → Contains (e ∷ edges) (u, v)
    go (inl t) later = let b = both _ _ t in
        let p : e.0 ≡ u = same-occurrence e.0 u b.0 in let q : e.1 ≡ v = same-occurrence e.1 v b.1 in
        let same : e ≡ (u, v) = λ i. (p i, q i) in
        subst (λ f. Contains (f ∷ edges) (u, v)) (sym same) (contains-first (u, v) edges)
    go (inr m) later = contains-later e (u, v) edges (later m)

pair-listed : (pairs : List (ℕ × ℕ)) (a b : AttrId) → IsTrue (is_pair pairs a b) → Contains pairs (a.0, b.0)
pair-listed [] a b h = never h
pair-listed (e ∷ pairs) a b h = go (either _ _ h) (pair-listed pairs a b)
  where
    go : IsTrue (nat_eq e.0 a.0 && nat_eq e.1 b.0) ⊎ IsTrue (is_pair pairs a b) → (IsTrue (is_pair pairs a b) → Contains pairs (a.0, b.0)) → Contains (e ∷ pairs) (a.0, b.0)
    go (inl t) later = let c = both _ _ t in
        let p : e.0 ≡ a.0 = eqb-true _ _ c.0 in let q : e.1 ≡ b.0 = eqb-true _ _ c.1 in
        let same : e ≡ (a.0, b.0) = λ i. (p i, q i) in
        subst (λ f. Contains (f ∷ pairs) (a.0, b.0)) (sym same) (contains-first (a.0, b.0) pairs)
    go (inr m) later = contains-later e (a.0, b.0) pairs (later m)

-- Edges for each rule and pairs for each symbol.
module _ (edges : FlatRule → List (Occ × Occ)) (pairs : SymId → List (ℕ × ℕ)) where
  abbrev occurrence : ℕ → ℕ → Occ
  occurrence k a = record { occ = k; attr = record { 0 = a } }

  abbrev induces : FlatRule → ℕ → Option SymId → Bool
  induces r k None = true
  induces r k (Some x) = list_all (λ (e : ℕ × ℕ). is_edge (edges r) (occurrence k e.0) (occurrence k e.1)) (pairs x)

  abbrev projects : Occ × Occ → Option SymId → Bool
  projects e None = true
  projects e (Some x) = is_pair (pairs x) e.0.attr e.1.attr

  pub record IsTestedRule (r : FlatRule) : Type 0 where
    pub direct : IsTrue (list_all (λ (c : FlatComp). list_all (λ d. is_edge (edges r) d c.goal) (dependencies c)) r.comps)
    pub induced : IsTrue (below (length (symbols_of r)) (λ k. induces r k (symbol_at r k)))
    pub transitive : IsTrue (list_all (λ (e : Occ × Occ). list_all (λ (f : Occ × Occ). implies (is_same_occ e.1 f.0) (is_edge (edges r) e.0 f.1)) (edges r)) (edges r))
    pub projected : IsTrue (list_all (λ (e : Occ × Occ). implies (nat_eq e.0.occ e.1.occ) (projects e (symbol_at r e.0.occ))) (edges r))

  abbrev P : FlatRule → Occ → Occ → Type 0
  P r u v = IsTrue (is_edge (edges r) u v)

  abbrev S : SymId → AttrId → AttrId → Type 0
  S x a b = IsTrue (is_pair (pairs x) a b)

  module _ (r : FlatRule) (t : IsTestedRule r) where
    direct-edges : (u v : Occ) → DP r u v → P r u v
    direct-edges u v (c, m, d, e) =
        let each = All-contains (λ (c : FlatComp). IsTrue (list_all (λ d. is_edge (edges r) d c.goal) (dependencies c))) r.comps c
        (all-tested (λ (c : FlatComp). list_all (λ d. is_edge (edges r) d c.goal) (dependencies c)) r.comps t.direct) m in
        subst (λ g. P r u g) e (All-contains (λ d. IsTrue (is_edge (edges r) d c.goal)) (dependencies c) u (all-tested (λ d. is_edge (edges r) d c.goal) (dependencies c) each) d)

    induced-edges : (u v : Occ) (x : SymId) → u.occ ≡ v.occ → symbol_at r u.occ ≡ Some x → S x u.attr v.attr → P r u v
    induced-edges u v x same at e =
        let here = subst (λ o. IsTrue (induces r u.occ o)) at (below-at (length (symbols_of r)) (λ k. induces r k (symbol_at r k)) t.induced u.occ (slice_get_within (symbols_of r) u.occ x at)) in
        let one = All-contains (λ (f : ℕ × ℕ). IsTrue (is_edge (edges r) (occurrence u.occ f.0) (occurrence u.occ f.1))) (pairs x) (u.attr.0, v.attr.0)
        (all-tested (λ (f : ℕ × ℕ). is_edge (edges r) (occurrence u.occ f.0) (occurrence u.occ f.1)) (pairs x) here) (pair-listed (pairs x) u.attr v.attr e) in
        subst (λ k. IsTrue (is_edge (edges r) u (occurrence k v.attr.0))) same one

    transitive-edges : (u v w : Occ) → P r u v → P r v w → P r u w
    transitive-edges u v w a b =
        let first = All-contains (λ (e : Occ × Occ). IsTrue (list_all (λ (f : Occ × Occ). implies (is_same_occ e.1 f.0) (is_edge (edges r) e.0 f.1)) (edges r))) (edges r) (u, v)
        (all-tested (λ (e : Occ × Occ). list_all (λ (f : Occ × Occ). implies (is_same_occ e.1 f.0) (is_edge (edges r) e.0 f.1)) (edges r)) (edges r) t.transitive) (edge-listed (edges r) u v a) in
        let second = All-contains (λ (f : Occ × Occ). IsTrue (implies (is_same_occ v f.0) (is_edge (edges r) u f.1))) (edges r) (v, w)
        (all-tested (λ (f : Occ × Occ). implies (is_same_occ v f.0) (is_edge (edges r) u f.1)) (edges r) first) (edge-listed (edges r) v w b) in
        implied _ _ second (same-true v v refl)

    projected-edges : (u v : Occ) (x : SymId) → P r u v → u.occ ≡ v.occ → symbol_at r u.occ ≡ Some x → S x u.attr v.attr
    projected-edges u v x a same at =
        let one = All-contains (λ (e : Occ × Occ). IsTrue (implies (nat_eq e.0.occ e.1.occ) (projects e (symbol_at r e.0.occ)))) (edges r) (u, v)
        (all-tested (λ (e : Occ × Occ). implies (nat_eq e.0.occ e.1.occ) (projects e (symbol_at r e.0.occ))) (edges r) t.projected) (edge-listed (edges r) u v a) in
        subst (λ o. IsTrue (projects (u, v) o)) at (implied _ _ one (eq-eqb _ _ same))

  -- the induced dependencies are among the pairs
  pub dependencies-tested : (rules : List FlatRule) → AllByRecursion IsTestedRule rules → (x : SymId) (a b : AttrId) → IDS rules x a b → Contains (pairs x) (a.0, b.0)
  dependencies-tested rules each x a b h = pair-listed (pairs x) a b (IDS-least rules P S closed h)
    where
      tested : (r : FlatRule) → Contains rules r → IsTestedRule r
      tested r m = All-contains IsTestedRule rules r (all-of IsTestedRule rules each) m

      closed : IsClosed rules P S
      closed = record {
        direct_edges = λ r u v m e. direct-edges r (tested r m) u v e;
        induced_edges = λ r u v x m same at e. induced-edges r (tested r m) u v x same at e;
        transitive = λ r u v w m a b. transitive-edges r (tested r m) u v w a b;
        projected = λ r u v x m a same at. projected-edges r (tested r m) u v x a same at;
      }
