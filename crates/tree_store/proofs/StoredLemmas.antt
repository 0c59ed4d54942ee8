-- What reads and writes of a stored node mean in the tree.
use Rattle.std.specs.Prelude.{map, Vec, slice_get, option_map, IsNone, IfSome, ◌↔◌}
use Rattle.std.specs.declared.alloc.Global.{Global}
use Rattle.std.proofs.Common.{◌≡◌, ℕ, zero, suc, ◌-◌, ◌<◌, List, [], ◌∷◌, ◌++◌, length, get_or, set, Option, Some, None, ◌+◌, refl, ap, sym, subst, ◌∙◌, arith, sub-one}
use Rattle.std.proofs.lemmas.List.{map_push}
use Rattle.std.proofs.lemmas.Option.{slice_get-map, slice_get_within, slice_get-get_or}
use Rattle.lido_base.specs.declared.ids.NodeId.{NodeId}
use Rattle.lido_base.specs.declared.ids.RuleId.{RuleId}
use Rattle.lido_base.specs.declared.value.Value.{Value}
use Rattle.lido_base.specs.Tree.{Tree, IsTree, Item, Child, item_at, items_of, parent_of, place_of, with_item, with_node, places}
use Rattle.lido_base.proofs.TreeLemmas.{parent_before}
use Rattle.tree_store.specs.declared.tree.StoredNode.{StoredNode}
use Rattle.tree_store.specs.declared.tree.StoredItem.{StoredItem}
use Rattle.tree_store.specs.Stored.{node_of, number_of, item_of, table}
use Rattle.tree_store.specs.Growth.{IsNext, IsEmptyOrTree}
use Rattle.tree_store.proofs.GrowthLemmas.{open_in}
use Rattle.tree_store.proofs.ReadingLemmas.{item_inside, no_parent_at_root, no_place_at_root}

pub length-table : (xs : List StoredNode) → length (table xs) ≡ length xs
length-table [] = refl
length-table (x ∷ xs) = ap suc (length-table xs)

with_item-set : (xs : List StoredNode) (i : ℕ) (d x : StoredNode) (item : Item Value) → i < length xs
    → node_of x ≡ record (node_of (get_or xs i d)) { items = (node_of (get_or xs i d)).items ++ item ∷ [] } → table (set xs i x) ≡ with_item (table xs) i item
with_item-set [] i d x item h e = absurd (omega arith)
with_item-set (y ∷ xs) zero d x item h e = ap (λ z. z ∷ table xs) e
with_item-set (y ∷ xs) (suc i) d x item h e = ap (λ z. node_of y ∷ z) (with_item-set xs i d x item (omega arith) e)

same-set : (xs : List StoredNode) (i : ℕ) (d x : StoredNode) → i < length xs → node_of x ≡ node_of (get_or xs i d) → table (set xs i x) ≡ table xs
same-set [] i d x h e = absurd (omega arith)
same-set (y ∷ xs) zero d x h e = ap (λ z. z ∷ table xs) e
same-set (y ∷ xs) (suc i) d x h e = ap (λ z. node_of y ∷ z) (same-set xs i d x (omega arith) e)

-- an item is pushed to those of one node
pub push_to : (xs : List StoredNode) (i : ℕ) (d : StoredNode) (items : Vec StoredItem Global) (item : StoredItem) → i < length xs → d ≡ get_or xs i d
    → items.items ≡ d.items.items ++ item ∷ [] → table (set xs i (record d { items = items })) ≡ with_item (table xs) i (item_of item)
push_to xs i d items item h same pushed = with_item-set xs i d (record d { items = items }) (item_of item) h
    (subst (λ z. node_of (record d { items = items }) ≡ record (node_of z) { items = (node_of z).items ++ item_of item ∷ [] }) same
    (ap (λ z. record (node_of d) { items = z }) (ap (map item_of) pushed ∙ map_push item_of d.items.items item)))

-- the items stay as they are
pub keep : (xs : List StoredNode) (i : ℕ) (d : StoredNode) (items : Vec StoredItem Global) → i < length xs → d ≡ get_or xs i d
    → items.items ≡ d.items.items → table (set xs i (record d { items = items })) ≡ table xs
keep xs i d items h same kept = same-set xs i d (record d { items = items }) h
    (ap (λ z. record (node_of d) { items = map item_of z }) kept ∙ ap node_of same)

pub items_of-table : (xs : List StoredNode) (n : ℕ) (d : StoredNode) → n < length xs → d ≡ get_or xs n d → items_of (table xs) n ≡ map item_of d.items.items
items_of-table [] n d h e = absurd (omega arith)
items_of-table (x ∷ xs) zero d h e = ap (λ (z : StoredNode). map item_of z.items.items) (sym e)
items_of-table (x ∷ xs) (suc n) d h e = items_of-table xs n d (omega arith) e

pub parent_of-table : (xs : List StoredNode) (n : ℕ) (d : StoredNode) → n < length xs → d ≡ get_or xs n d → number_of d.parent ≡ parent_of (table xs) n
parent_of-table [] n d h e = absurd (omega arith)
parent_of-table (x ∷ xs) zero d h e = ap (λ (z : StoredNode). number_of z.parent) e
parent_of-table (x ∷ xs) (suc n) d h e = parent_of-table xs n d (omega arith) e

pub place_of-table : (xs : List StoredNode) (n : ℕ) (d : StoredNode) → n < length xs → d ≡ get_or xs n d → d.place ≡ place_of (table xs) n
place_of-table [] n d h e = absurd (omega arith)
place_of-table (x ∷ xs) zero d h e = ap (λ (z : StoredNode). z.place) e
place_of-table (x ∷ xs) (suc n) d h e = place_of-table xs n d (omega arith) e

length-items : (items : List StoredItem) → length (map item_of items) ≡ length items
length-items [] = refl
length-items (x ∷ items) = ap suc (length-items items)

pub places-table : (xs : List StoredNode) (n : ℕ) (d : StoredNode) → n < length xs → d ≡ get_or xs n d → places (table xs) n ≡ length d.items.items
places-table xs n d h e = ap length (items_of-table xs n d h e) ∙ length-items d.items.items

-- the item at a place is the stored one there
pub item_stored : (xs : List StoredNode) (n place : ℕ) (y : Item Value) (d : StoredNode) (x : StoredItem) → item_at (table xs) n place ≡ Some y
    → d ≡ get_or xs n d → x ≡ get_or d.items.items (place - 1) x → y ≡ item_of x
item_stored xs n zero y d x found node item = cc
item_stored xs n (suc k) y d x found node item = go (slice_get_within (map item_of d.items.items) k y at_k)
  where
    inside : n < length xs
    inside = let h = item_inside (table xs) n (suc k) y found in omega (arith, length-table xs)

    at_k : slice_get (map item_of d.items.items) k ≡ Some y
    at_k = ap (λ items. slice_get items k) (sym (items_of-table xs n d inside node)) ∙ found

    go : k < length (map item_of d.items.items) → y ≡ item_of x
    go h = some_injective (sym at_k ∙ slice_get-map item_of d.items.items k ∙ ap (option_map item_of) (slice_get-get_or d.items.items k x (omega (arith, length-items d.items.items)) ∙ ap Some (sym (rw sub-one at item))))
      where
        some_injective : {a b : Item Value} → Some a ≡ Some b → a ≡ b
        some_injective e = cc

-- the stored parent of the next node is stored
pub next_inside : (xs : List StoredNode) (t : Tree Value) → table xs ≡ t → IsEmptyOrTree (table xs) → (o : Option NodeId) (p : NodeId) → o ≡ Some p → IsNext t (number_of o) → p.0 < length xs
next_inside xs t view tree o p e next = let h = open_in (table xs) tree p.0 (rw view (subst (λ z. IsNext t (number_of z)) e next)) in omega (arith, length-table xs)

-- a node is pushed, with its number among the items of its parent
pub push_below : (xs ys zs : List StoredNode) (t : Tree Value) (rule : RuleId) (line column : ℕ) (o : Option NodeId) (p number : NodeId) (node : StoredNode) → table xs ≡ t → o ≡ Some p
    → table ys ≡ with_item (table xs) p.0 (Child number.0) → zs ≡ ys ++ node ∷ [] → number.0 ≡ length xs
    → node.rule ≡ rule → node.parent ≡ Some p → node.place ≡ places (table xs) p.0 + 1 → node.line ≡ line → node.column ≡ column → node.items.items ≡ []
    → table zs ≡ with_node t rule.0 (number_of o) line column
push_below xs ys zs t rule line column o p number node view e below pushed last rule_is parent_is place_is line_is column_is items_is =
    ap table pushed ∙ map_push node_of ys node ∙ ap (λ z. z ++ node_of node ∷ []) (below ∙ ap (λ n. with_item (table xs) p.0 (Child n)) (last ∙ sym (length-table xs)))
    ∙ ap (λ z. with_item (table xs) p.0 (Child (length (table xs))) ++ z ∷ []) same ∙ ap (λ z. with_node z rule.0 (Some p.0) line column) view ∙ ap (λ z. with_node t rule.0 (number_of z) line column) (sym e)
  where
    same : node_of node ≡ record { rule = rule.0; parent = Some p.0; place = places (table xs) p.0 + 1; line = line; column = column; items = [] }
    same = rw (rule_is, parent_is, place_is, line_is, column_is, items_is) refl

-- the first node is pushed
pub push_first : (xs ys : List StoredNode) (t : Tree Value) (rule : RuleId) (line column : ℕ) (o : Option NodeId) (node : StoredNode) → table xs ≡ t → o ≡ None
    → ys ≡ xs ++ node ∷ [] → node.rule ≡ rule → node.parent ≡ None → node.place ≡ 0 → node.line ≡ line → node.column ≡ column → node.items.items ≡ [] → table ys ≡ with_node t rule.0 (number_of o) line column
push_first xs ys t rule line column o node view e pushed rule_is parent_is place_is line_is column_is items_is =
    ap table pushed ∙ map_push node_of xs node ∙ ap (λ z. table xs ++ z ∷ []) same ∙ ap (λ z. with_node z rule.0 None line column) view ∙ ap (λ z. with_node t rule.0 (number_of z) line column) (sym e)
  where
    same : node_of node ≡ record { rule = rule.0; parent = None; place = 0; line = line; column = column; items = [] }
    same = rw (rule_is, parent_is, place_is, line_is, column_is, items_is) refl

module _ (t : Tree Value) (tree : IsEmptyOrTree t) (n : ℕ) (inside : n < length t) where
  there : IsTree t
  there = tree (omega arith)

  -- the root alone has no parent
  pub root_parent : (o : Option NodeId) → number_of o ≡ parent_of t n → IsNone o ↔ (n ≡ 0)
  root_parent None e = (λ none. no_parent_at_root t there n inside (sym e), λ zero. refl)
  root_parent (Some p) e = (λ none. absurd (some_is_none none), λ root. absurd (some_none (e ∙ ap (parent_of t) root ∙ there.root_first)))
    where
      some_is_none : IsNone (Some p) → ⊥
      some_is_none e = cc

      some_none : number_of (Some p) ≡ None → ⊥
      some_none e = cc

  -- a parent stands before its children
  pub parent_first : (o : Option NodeId) → number_of o ≡ parent_of t n → IfSome o (λ p. p.0 < n)
  parent_first None e = tt
  parent_first (Some p) e = parent_before t there n p.0 (sym e)

  -- the root alone has place 0
  pub root_place : (place : ℕ) → place ≡ place_of t n → (place ≡ 0) ↔ (n ≡ 0)
  root_place place e = (λ none. no_place_at_root t there n inside (sym e ∙ none), λ root. e ∙ ap (place_of t) root ∙ there.root_place)
