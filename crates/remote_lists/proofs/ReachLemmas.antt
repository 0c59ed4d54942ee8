-- Edges that lead from no closed vertex, and the graph of the plain rules.
use Rattle.std.specs.Prelude.{◌&&◌, ◌↔◌, not, IsTrue}
use Rattle.std.proofs.Common.{◌≡◌, ◌∙◌, ℕ, ◌<◌, Bool, true, false, List, length, refl, sym, ap, arith}
use Rattle.lido_base.specs.Reach.{Reaches}
use Rattle.lido_base.proofs.TreeLemmas.{both}
use Rattle.least_paths.specs.Graph.{IsGraph, has_edge, is_in}
use Rattle.least_paths.proofs.GraphLemmas.{edge-test, test-edge}
use Rattle.least_paths.proofs.AgreeLemmas.{agree-Reaches}
use Rattle.need_graphs.proofs.ListLemmas.{same-bool}
use Rattle.rule_tables.specs.declared.table.Tables.{Tables}
use Rattle.rule_tables.specs.PlainRules.{is_child, plain_rules}
use Rattle.rule_tables.specs.TablesOf.{named_symbols}
use Rattle.remote_lists.specs.Reach.{down_edge, IsChildGraph}

-- the graph has the edges of another that lead from no vertex of the set
abbrev pub AreKept : List (List ℕ) → List (List ℕ) → List Bool → Type 0
AreKept edges graph closed = (x y : ℕ) → IsTrue (has_edge edges x y) ↔ (IsTrue (has_edge graph x y) × ¬ IsTrue (is_in closed x))

pub not-in : (b : Bool) → ¬ IsTrue b → not b ≡ true
not-in true h = absurd (h refl)
not-in false h = refl

pub in-not : (b : Bool) → not b ≡ true → ¬ IsTrue b
in-not true h = absurd (cc)
in-not false h = λ e. let wrong : false ≡ true = e in cc

pub and-true : (a b : Bool) → a ≡ true → b ≡ true → IsTrue (a && b)
and-true a b p q = ap (λ c. c && b) p ∙ q

pub down-same : (graph edges : List (List ℕ)) (closed : List Bool) → AreKept edges graph closed → (x y : ℕ) → IsTrue (has_edge edges x y) ↔ IsTrue (down_edge graph closed x y)
down-same graph edges closed kept x y = (
  (λ h. let p = (kept x y).0 h in and-true (not (is_in closed x)) (has_edge graph x y) (not-in (is_in closed x) p.1) p.0),
  (λ h. let p = both (not (is_in closed x)) (has_edge graph x y) h in (kept x y).1 (p.1, in-not (is_in closed x) p.0)),
)

pub kept-graph : (graph edges : List (List ℕ)) (closed : List Bool) → AreKept edges graph closed → IsGraph graph → length edges ≡ length graph → IsGraph edges
kept-graph graph edges closed kept is same x y m = let l = is x y (edge-test graph x y ((kept x y).0 (test-edge edges x y m)).0) in omega (arith, l, same)

pub same-reach : (starts : List Bool) (set : List Bool) (e f : ℕ → ℕ → Bool) → ((x y : ℕ) → IsTrue (e x y) ↔ IsTrue (f x y)) → ((x : ℕ) → IsTrue (is_in set x) ↔ Reaches (is_in starts) e x)
    → (x : ℕ) → IsTrue (is_in set x) ↔ Reaches (is_in starts) f x
same-reach starts set e f same is x = (
  (λ h. agree-Reaches (is_in starts) (is_in starts) e f (λ z m. m) (λ u v. (same u v).0) x ((is x).0 h)),
  (λ h. (is x).1 (agree-Reaches (is_in starts) (is_in starts) f e (λ z m. m) (λ u v. (same u v).1) x h)),
)

-- its edges lead to children
pub child-edge : (t : Tables) (graph : List (List ℕ)) → IsChildGraph t graph → (symbols : List ℕ) → symbols ≡ named_symbols t → (x y : ℕ) → has_edge graph x y ≡ is_child (plain_rules t.spec symbols) x y
child-edge t graph its symbols same x y =
    let e = its.edges x y in
    same-bool (has_edge graph x y) (is_child (plain_rules t.spec (named_symbols t)) x y) e.0 e.1 ∙ ap (λ s. is_child (plain_rules t.spec s) x y) (sym same)
