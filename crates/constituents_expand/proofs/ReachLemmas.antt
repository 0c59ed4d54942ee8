-- Edges that lead from no shield, and children of a set.
use Rattle.std.specs.Prelude.{◌&&◌, ◌↔◌, not, map, zip, IsTrue}
use Rattle.std.proofs.Common.{◌≡◌, ◌∙◌, ℕ, zero, suc, ◌<◌, Bool, true, false, List, [], ◌∷◌, length, refl, sym, ap, subst, arith}
use Rattle.lido_base.specs.Reach.{Reaches}
use Rattle.lido_base.proofs.Lists.{contains-nil, contains-here}
use Rattle.least_paths.specs.Graph.{IsGraph, IsEdge, has_edge, is_in}
use Rattle.least_paths.proofs.GraphLemmas.{edge-test, test-edge, edge-below}
use Rattle.least_paths.proofs.AgreeLemmas.{agree-Reaches}
use Rattle.constituents_expand.specs.Reach.{is_filled, IsChildOf, up_edge, down_edge}

-- the graph has the edges of another that lead from no vertex of the set
abbrev pub AreKept : List (List ℕ) → List (List ℕ) → List Bool → Type 0
AreKept edges graph closed = (x y : ℕ) → IsTrue (has_edge edges x y) ↔ (IsTrue (has_edge graph x y) × ¬ IsTrue (is_in closed x))

abbrev pub AreTurned : List (List ℕ) → List (List ℕ) → Type 0
AreTurned back edges = (x y : ℕ) → IsEdge back y x ↔ IsEdge edges x y

not-in : (b : Bool) → ¬ IsTrue b → not b ≡ true
not-in true h = absurd (h refl)
not-in false h = refl

in-not : (b : Bool) → not b ≡ true → ¬ IsTrue b
in-not true h = absurd (cc)
in-not false h = λ e. let wrong : false ≡ true = e in cc

and-true : (a b : Bool) → a ≡ true → b ≡ true → IsTrue (a && b)
and-true a b p q = ap (λ c. c && b) p ∙ q

of-and : (a b : Bool) → IsTrue (a && b) → (a ≡ true) × (b ≡ true)
of-and true b h = (refl, h)
of-and false b h = absurd (cc)

module _ (graph edges : List (List ℕ)) (shields : List Bool) (kept : AreKept edges graph shields) where
  pub down-same : (x y : ℕ) → IsTrue (has_edge edges x y) ↔ IsTrue (down_edge graph shields x y)
  down-same x y = (
    (λ h. let p = (kept x y).0 h in and-true (not (is_in shields x)) (has_edge graph x y) (not-in (is_in shields x) p.1) p.0),
    (λ h. let p = of-and (not (is_in shields x)) (has_edge graph x y) h in (kept x y).1 (p.1, in-not (is_in shields x) p.0)),
  )

  pub up-same : (back : List (List ℕ)) → AreTurned back edges → (y x : ℕ) → IsTrue (has_edge back y x) ↔ IsTrue (up_edge graph shields y x)
  up-same back turned y x = (
    (λ h. let p = (kept x y).0 (test-edge edges x y ((turned x y).0 (edge-test back y x h))) in and-true (has_edge graph x y) (not (is_in shields x)) p.0 (not-in (is_in shields x) p.1)),
    (λ h. let p = of-and (has_edge graph x y) (not (is_in shields x)) h in test-edge back y x ((turned x y).1 (edge-test edges x y ((kept x y).1 (p.0, in-not (is_in shields x) p.1))))),
  )

pub kept-graph : (graph edges : List (List ℕ)) (closed : List Bool) → AreKept edges graph closed → IsGraph graph → length edges ≡ length graph → IsGraph edges
kept-graph graph edges closed kept is same x y m = let l = is x y (edge-test graph x y ((kept x y).0 (test-edge edges x y m)).0) in omega (arith, l, same)

pub turned-graph : (edges back : List (List ℕ)) → AreTurned back edges → length back ≡ length edges → IsGraph back
turned-graph edges back turned same y x m = let l = edge-below edges x y ((turned x y).0 m) in omega (arith, l, same)

pub same-reach : (starts : List Bool) (set : List Bool) (e f : ℕ → ℕ → Bool) → ((x y : ℕ) → IsTrue (e x y) ↔ IsTrue (f x y)) → ((x : ℕ) → IsTrue (is_in set x) ↔ Reaches (is_in starts) e x)
    → (x : ℕ) → IsTrue (is_in set x) ↔ Reaches (is_in starts) f x
same-reach starts set e f same is x = (
  (λ h. agree-Reaches (is_in starts) (is_in starts) e f (λ z m. m) (λ u v. (same u v).0) x ((is x).0 h)),
  (λ h. (is x).1 (agree-Reaches (is_in starts) (is_in starts) f e (λ z m. m) (λ u v. (same u v).1) x h)),
)

-- the rows that aren't empty
filled-row : (back : List (List ℕ)) (y : ℕ) → IsTrue (is_in (map is_filled back) y) → (x : ℕ) × IsEdge back y x
filled-row [] y h = absurd (cc)
filled-row ([] ∷ back) zero h = absurd (cc)
filled-row ((x ∷ row) ∷ back) zero h = (x, contains-here x row)
filled-row (row ∷ back) (suc y) h = filled-row back y h

row-filled : (back : List (List ℕ)) (y x : ℕ) → IsEdge back y x → IsTrue (is_in (map is_filled back) y)
row-filled [] y x m = absurd (contains-nil x m)
row-filled ([] ∷ back) zero x m = absurd (contains-nil x m)
row-filled ((z ∷ row) ∷ back) zero x m = refl
row-filled (row ∷ back) (suc y) x m = row-filled back y x m

others-in : (set : List Bool) (x : ℕ) → x < length set → is_in (map not set) x ≡ not (is_in set x)
others-in [] x l = absurd (omega (arith, l))
others-in (b ∷ set) zero l = refl
others-in (b ∷ set) (suc x) l = others-in set x (omega (arith, l))

twice-not : (b : Bool) → ¬ IsTrue (not b) → IsTrue b
twice-not true h = refl
twice-not false h = absurd (h refl)

not-twice : (b : Bool) → IsTrue b → ¬ IsTrue (not b)
not-twice true h = λ e. let wrong : false ≡ true = e in cc
not-twice false h = absurd (cc)

module _ (graph edges back : List (List ℕ)) (set rest : List Bool) (one : length set ≡ length graph) (others : rest ≡ map not set) (kept : AreKept edges graph rest) (turned : AreTurned back edges) where
  rest-in : (x y : ℕ) → IsTrue (has_edge graph x y) → is_in rest x ≡ not (is_in set x)
  rest-in x y h = let l = edge-below graph x y (edge-test graph x y h) in ap (λ s. is_in s x) others ∙ others-in set x (omega (arith, l, one))

  pub children : (y : ℕ) → IsTrue (is_in (map is_filled back) y) ↔ IsChildOf graph set y
  children y = (
    (λ h. let (x, m) = filled-row back y h in
        let (e, closed) = (kept x y).0 (test-edge edges x y ((turned x y).0 m)) in
        (x, e, twice-not (is_in set x) (subst (λ b. ¬ IsTrue b) (rest-in x y e) closed))),
    (λ h. let (x, e, m) = h in
        row-filled back y x ((turned x y).1 (edge-test edges x y ((kept x y).1 (e, subst (λ b. ¬ IsTrue b) (sym (rest-in x y e)) (not-twice (is_in set x) m)))))),
  )

-- members of both sets
pub both-in : (one other : List Bool) → length one ≡ length other → (x : ℕ) → is_in (map (λ (p : Bool × Bool). p.0 && p.1) (zip one other)) x ≡ (is_in one x && is_in other x)
both-in [] [] e x = refl
both-in [] (c ∷ other) e x = absurd (omega (arith, e))
both-in (b ∷ one) [] e x = absurd (omega (arith, e))
both-in (b ∷ one) (c ∷ other) e zero = refl
both-in (b ∷ one) (c ∷ other) e (suc x) = both-in one other (omega (arith, e)) x
