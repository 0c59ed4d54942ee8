-- The table of a written tree is a tree in preorder, and has its nodes in their places.
use Rattle.std.proofs.Common.{◌≡◌, ℕ, ◌+◌, ◌<◌, List, [], ◌∷◌, ◌++◌, length, Some, None, Option, refl, ap, sym, ◌∙◌, subst, arith, append_assoc, append-nil, suc, zero, add-one, length-append}
use Rattle.std.specs.Prelude.{⊤, slice_get}
use Rattle.lido_base.specs.Plain.{Plain, Int, Str}
use Rattle.lido_base.specs.Tree.{Tree, Node, Item, Child, Leaf, IsTree, items_of, parent_of, places, rule_at, with_item, with_node}
use Rattle.tree_store.specs.Growth.{IsOpen}
use Rattle.tree_store.proofs.GrowthLemmas.{length-with_item, open_inside, parent_of_last, IsTree-with_node, IsTree-with_leaf, IsTree-first}
use Rattle.tree_store.proofs.OpenLemmas.{open_upwards, open_kept, open_added}
use Rattle.tree_reader.specs.declared.part.Coordinates.{Coordinates}
use Rattle.tree_reader.specs.Language.{Forest, none, node, int, string}
use Rattle.tree_reader.specs.WrittenTrees.{Asked, count, rule_named, items, nodes, add_items, coordinates_of, own, table_node, fill}
use Rattle.tree_reader.proofs.Filling.{length-nodes, fill_none, fill_leaf, fill_after, added, grown, length-add_items}

module _ {V : Type 0} where
  parents_left : (t u : Tree V) (q : ℕ) → q < length t → parent_of (t ++ u) q ≡ parent_of t q
  parents_left [] u q less = absurd (omega (arith, less))
  parents_left (n ∷ t) u zero less = refl
  parents_left (n ∷ t) u (suc q) less = parents_left t u q (omega (arith, less))

  parents_added : (t : Tree V) (p : ℕ) (more : List (Item V)) (q : ℕ) → parent_of (add_items t p more) q ≡ parent_of t q
  parents_added [] p more q = refl
  parents_added (n ∷ t) zero more zero = refl
  parents_added (n ∷ t) zero more (suc q) = refl
  parents_added (n ∷ t) (suc p) more zero = refl
  parents_added (n ∷ t) (suc p) more (suc q) = parents_added t p more q

  pub at_middle : (front : Tree V) (n : Node V) (back : Tree V) (k : ℕ) → k ≡ length front → slice_get (front ++ (n ∷ back)) k ≡ Some n
  at_middle [] n back zero is = refl
  at_middle [] n back (suc k) is = absurd (omega (arith, is))
  at_middle (m ∷ front) n back zero is = absurd (omega (arith, is))
  at_middle (m ∷ front) n back (suc k) is = at_middle front n back k (omega (arith, is))

module _ {S : Type 0} (g : Asked S) where
  parents_filled : (t : Tree Plain) (p : ℕ) (f : Forest) (q : ℕ) → q < length t → parent_of (fill g t p f) q ≡ parent_of t q
  parents_filled t p f q less =
      parents_left (add_items t p (items g (length t) f)) (nodes g (length t) p (places t p) (coordinates_of t p) f) q (omega (arith, less, length-add_items t p (items g (length t) f)))
      ∙ parents_added t p (items g (length t) f) q

  -- a node and its siblings are filled in one after another
  fill_named : (t : Tree Plain) (p at name_at : ℕ) (name : List ℕ) (coordinates : Option Coordinates) (below : Forest) (end : ℕ) (after : Forest) → p < length t
      → fill g t p (node at name_at name coordinates below end after) ≡ fill g (fill g (grown g t (rule_named g name) p (own coordinates (coordinates_of t p))) (length t) below) p after
  fill_named t p at name_at name coordinates below end after less =
      let n = length t in
      let c : Coordinates = own coordinates (coordinates_of t p) in
      let rest : Tree Plain = nodes g (suc n) n 0 c below ++ nodes g (suc (n + count below)) p (suc (places t p)) (coordinates_of t p) after in
      let front : Tree Plain = add_items t p (Child n ∷ items g (suc (n + count below)) after) in
      ap (λ (k : ℕ). front ++ (table_node (rule_named g name) (Some p) k c (items g (suc n) below) ∷ rest)) (sym (add-one (places t p)))
      ∙ sym (fill_after g t (rule_named g name) p c below after less)

  record Stays (t : Tree Plain) (p : ℕ) : Type 0 where
    pub tree : IsTree t
    pub is_open : IsOpen t p

  stays : (f : Forest) (t : Tree Plain) (p : ℕ) → Stays t p → Stays (fill g t p f) p
  stays none t p s = subst (λ (u : Tree Plain). Stays u p) (sym (fill_none g t p)) s
  stays (int at v after) t p s =
      let inside : p < length t = open_inside t s.tree p s.is_open in
      subst (λ (u : Tree Plain). Stays u p) (sym (fill_leaf g t p (Int v) after inside))
      (stays after (with_item t p (Leaf (Int v))) p (record { tree = IsTree-with_leaf t s.tree p (Int v) inside; is_open = open_kept t s.tree p p (Int v) s.is_open }))
  stays (string at v after) t p s =
      let inside : p < length t = open_inside t s.tree p s.is_open in
      subst (λ (u : Tree Plain). Stays u p) (sym (fill_leaf g t p (Str v) after inside))
      (stays after (with_item t p (Leaf (Str v))) p (record { tree = IsTree-with_leaf t s.tree p (Str v) inside; is_open = open_kept t s.tree p p (Str v) s.is_open }))
  stays (node at name_at name coordinates below end after) t p s =
      let inside : p < length t = open_inside t s.tree p s.is_open in
      let r = rule_named g name in
      let c : Coordinates = own coordinates (coordinates_of t p) in
      let u : Tree Plain = grown g t r p c in
      let base : Tree Plain = with_item t p (Child (length t)) in
      let inner : Stays (fill g u (length t) below) (length t) = stays below u (length t) (record { tree = IsTree-with_node t s.tree r p c.line c.column s.is_open; is_open = open_added t r (Some p) c.line c.column }) in
      let there : length t < length u = omega (arith, length-append base (added g t p r c ∷ []), length-with_item t p (Child (length t))) in
      let up : parent_of (fill g u (length t) below) (length t) ≡ Some p
      = parents_filled u (length t) below (length t) there ∙ parent_of_last base (added g t p r c) (length t) (sym (length-with_item t p (Child (length t)))) in
      subst (λ (v : Tree Plain). Stays v p) (sym (fill_named t p at name_at name coordinates below end after inside))
      (stays after (fill g u (length t) below) p (record { tree = inner.tree; is_open = open_upwards (fill g u (length t) below) inner.tree (length t) p inner.is_open up }))

  -- the table of a node and what is below it
  abbrev pub table : ℕ → Coordinates → Forest → Tree Plain
  table rule c below = table_node rule None 0 c (items g 1 below) ∷ nodes g 1 0 0 c below

  pub table_is_tree : (rule : ℕ) (c : Coordinates) (below : Forest) → IsTree (table rule c below)
  table_is_tree rule c below =
      let s : Stays (fill g (with_node [] rule None c.line c.column) 0 below) 0 = stays below (with_node [] rule None c.line c.column) 0 (record { tree = IsTree-first rule c.line c.column; is_open = open_added [] rule None c.line c.column }) in
      s.tree

  -- The tree has the nodes of the siblings, and those below them, from n on.
  abbrev pub HasNodes : Tree Plain → ℕ → Forest → Type 0
  HasNodes t n none = ⊤
  HasNodes t n (node at name_at name coordinates below end after) = (rule_at t n ≡ Some (rule_named g name)) × (items_of t n ≡ items g (suc n) below) × HasNodes t (suc n) below × HasNodes t (suc (n + count below)) after
  HasNodes t n (int at v after) = HasNodes t n after
  HasNodes t n (string at v after) = HasNodes t n after

  has_nodes : (f : Forest) (n p k : ℕ) (above : Coordinates) (front back t : Tree Plain) → t ≡ front ++ (nodes g n p k above f ++ back) → n ≡ length front → HasNodes t n f
  has_nodes none n p k above front back t is size = tt
  has_nodes (int at v after) n p k above front back t is size = has_nodes after n p (suc k) above front back t is size
  has_nodes (string at v after) n p k above front back t is size = has_nodes after n p (suc k) above front back t is size
  has_nodes (node at name_at name coordinates below end after) n p k above front back t is size =
      let first : Node Plain = table_node (rule_named g name) (Some p) (suc k) (own coordinates above) (items g (suc n) below) in
      let low : Tree Plain = nodes g (suc n) n 0 (own coordinates above) below in
      let later : Tree Plain = nodes g (suc (n + count below)) p (suc k) above after in
      let here : slice_get t n ≡ Some first = ap (λ (u : Tree Plain). slice_get u n) is ∙ at_middle front first ((low ++ later) ++ back) n size in
      let up_to_first : front ++ (first ∷ ((low ++ later) ++ back)) ≡ (front ++ first ∷ []) ++ (low ++ (later ++ back))
      = ap (λ (u : Tree Plain). front ++ (first ∷ u)) (append_assoc low later back) ∙ sym (append_assoc front (first ∷ []) (low ++ (later ++ back))) in (
        ap (λ (o : Option (Node Plain)). elim o as (λ _. Option ℕ) [ None ↦ None | Some x ↦ Some x.rule ]) here,
        ap (λ (o : Option (Node Plain)). elim o as (λ _. List (Item Plain)) [ None ↦ [] | Some x ↦ x.items ]) here,
        has_nodes below (suc n) n 0 (own coordinates above) (front ++ first ∷ []) (later ++ back) t (is ∙ up_to_first) (omega (arith, size, length-append front (first ∷ []))),
        has_nodes after (suc (n + count below)) p (suc k) above ((front ++ first ∷ []) ++ low) back t
            (is ∙ up_to_first ∙ sym (append_assoc (front ++ first ∷ []) low (later ++ back)))
            (omega (arith, size, length-append (front ++ first ∷ []) low, length-append front (first ∷ []), length-nodes g (suc n) n 0 (own coordinates above) below)),
      )

  pub table_has_nodes : (rule : ℕ) (c : Coordinates) (below : Forest) → HasNodes (table rule c below) 1 below
  table_has_nodes rule c below =
      let root : Node Plain = table_node rule None 0 c (items g 1 below) in
      has_nodes below 1 0 0 c (root ∷ []) [] (table rule c below) (ap (λ (u : Tree Plain). root ∷ u) (sym (append-nil (nodes g 1 0 0 c below)))) refl
