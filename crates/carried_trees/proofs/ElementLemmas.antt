-- The elements of a list from a cell on.
use Rattle.std.specs.Prelude.{Contains, filter_map, unwrap_or}
use Rattle.std.proofs.Common.{◌≡◌, ℕ, ◌<◌, List, [], ◌∷◌, length, Option, refl, ap, ◌∙◌}
use Rattle.lido_base.specs.Plain.{Plain}
use Rattle.lido_base.specs.Tree.{Item, children, child_number, AsksBelow}
use Rattle.lido_base.specs.declared.ids.SymId.{SymId}
use Rattle.lido_base.proofs.Lists.{contains-here, contains-later}
use Rattle.lido_base.proofs.TreeLemmas.{from_children-step, children_behind}
use Rattle.flat_grammar.specs.FlatTrees.{AreCells}
use Rattle.tree_flattener.proofs.OnePathLemmas.{rule_inside}
use Rattle.carried_trees.specs.Flattening.{Flattening, Trees, AreTrees}
use Rattle.carried_trees.specs.Carry.{origin_of, and_next, elements_from}

module _ (f : Flattening) (x : Trees) (are : AreTrees f x) where
  asks : AsksBelow x.flat (λ elements n. and_next f x elements (children x.flat n))
  asks n g h same = by (children x.flat n) same
    where
      by : (l : List ℕ) → ((c : ℕ) → Contains l c → g c ≡ h c) → and_next f x g l ≡ and_next f x h l
      by [] same = refl
      by (e ∷ []) same = refl
      by (e ∷ c ∷ []) same = ap (λ l. origin_of f x e ∷ l) (same c (contains-later e c (c ∷ []) (contains-here c [])))
      by (e ∷ c ∷ d ∷ l) same = refl

  elements-step : (n : ℕ) → n < length x.flat → elements_from f x n ≡ and_next f x (elements_from f x) (children x.flat n)
  unfolding elements_from
  elements-step n h = from_children-step x.flat [] (λ elements n. and_next f x elements (children x.flat n)) asks (children_behind x.flat are.flat_tree.tree) n h

  -- they are those that stand from there on
  pub elements-are : (w : ℕ) (cell : SymId) (rest : List ℕ) (n : ℕ) → AreCells f.rules f.shapes x.flat x.node_of cell w n rest → elements_from f x n ≡ rest
  elements-are w cell [] n (r, (j, at, there), left, right, none, of) =
      elements-step n (rule_inside x.flat n j at) ∙ ap (λ (items : List (Item Plain)). and_next f x (elements_from f x) (filter_map child_number items)) none
  elements-are w cell (e ∷ rest) n (r, element, d, next, (j, at, there), has_element, left, right, items, of, stands, more) =
      elements-step n (rule_inside x.flat n j at)
      ∙ ap (λ (items : List (Item Plain)). and_next f x (elements_from f x) (filter_map child_number items)) items
      ∙ ap (λ (o : Option ℕ). unwrap_or o 0 ∷ elements_from f x next) stands.1
      ∙ ap (λ l. e ∷ l) (elements-are w cell rest next more)
