-- What stays where a flat tree grows.
use Rattle.std.specs.Prelude.{slice_get, true, false, Bool, take, filter_map}
use Rattle.std.proofs.Common.{◌≡◌, ℕ, zero, suc, ◌+◌, ◌<◌, ◌≤◌, List, [], ◌∷◌, ◌++◌, length, Some, refl, ap, sym, subst, ◌∙◌, arith}
use Rattle.std.proofs.lemmas.Option.{slice_get_within}
use Rattle.lido_base.specs.declared.ids.SymId.{SymId}
use Rattle.lido_base.specs.declared.value.Value.{Value}
use Rattle.lido_base.specs.Tree.{Node, Item, Child, Leaf, IsTree, parent_of, line_of, column_of, items_of, rule_at, with_item, child_number, children}
use Rattle.flat_grammar.specs.declared.flat.FlatSymbol.{FlatSymbol}
use Rattle.flat_grammar.specs.declared.flat.FlatRule.{FlatRule}
use Rattle.flat_grammar.specs.declared.flat.Shape.{Shape}
use Rattle.flat_grammar.specs.Rules.{HasRule}
use Rattle.flat_grammar.specs.FlatTrees.{IsNodeOf, AreItems, AreCells}
use Rattle.tree_store.specs.Growth.{IsOpen}
use Rattle.tree_store.proofs.GrowthLemmas.{get_before, get_last, length-with_item, parent_of-with_item, items_of-with_item_other, length-grown, parent_of-grown, parent_of-added, items_of-parent, items_of-other, IsTree-with_node, IsTree-leaf, open_inside}
use Rattle.tree_store.proofs.OpenLemmas.{open_added, open_parent, open_kept}
use Rattle.tree_flattener.specs.Drafts.{Table, IsGrown, Grows, Fills, IsCellOf, IsChain, IsUpToAs, IsWholeAs}

pub rule_at-with_item : (t : Table) (p : ℕ) (x : Item Value) (n : ℕ) → rule_at (with_item t p x) n ≡ rule_at t n
rule_at-with_item [] p x n = refl
rule_at-with_item (node ∷ t) zero x zero = refl
rule_at-with_item (node ∷ t) zero x (suc n) = refl
rule_at-with_item (node ∷ t) (suc p) x zero = refl
rule_at-with_item (node ∷ t) (suc p) x (suc n) = rule_at-with_item t p x n

pub line_of-with_item : (t : Table) (p : ℕ) (x : Item Value) (n : ℕ) → line_of (with_item t p x) n ≡ line_of t n
line_of-with_item [] p x n = refl
line_of-with_item (node ∷ t) zero x zero = refl
line_of-with_item (node ∷ t) zero x (suc n) = refl
line_of-with_item (node ∷ t) (suc p) x zero = refl
line_of-with_item (node ∷ t) (suc p) x (suc n) = line_of-with_item t p x n

pub column_of-with_item : (t : Table) (p : ℕ) (x : Item Value) (n : ℕ) → column_of (with_item t p x) n ≡ column_of t n
column_of-with_item [] p x n = refl
column_of-with_item (node ∷ t) zero x zero = refl
column_of-with_item (node ∷ t) zero x (suc n) = refl
column_of-with_item (node ∷ t) (suc p) x zero = refl
column_of-with_item (node ∷ t) (suc p) x (suc n) = column_of-with_item t p x n

rule_at_before : (t : Table) (node : Node Value) (n : ℕ) → n < length t → rule_at (t ++ node ∷ []) n ≡ rule_at t n
rule_at_before t node n h = rw (get_before t node n h) refl

rule_at_last : (t : Table) (node : Node Value) (n : ℕ) → n ≡ length t → rule_at (t ++ node ∷ []) n ≡ Some node.rule
rule_at_last t node n h = rw (get_last t node n h) refl

-- there are no items past the nodes
items_past : (t : Table) (n : ℕ) → length t ≤ n → items_of t n ≡ []
items_past [] n h = refl
items_past (node ∷ t) zero h = absurd (omega arith)
items_past (node ∷ t) (suc n) h = items_past t n (omega arith)

-- a node of this rule was added below p
pub record Adds (F G : Table) (rule p : ℕ) : Type 0 where
  pub count : length G ≡ length F + 1
  pub parent_there : p < length F
  pub rules : (n : ℕ) → n < length F → rule_at G n ≡ rule_at F n
  pub own_rule : rule_at G (length F) ≡ Some rule
  pub parents : (n : ℕ) → n < length F → parent_of G n ≡ parent_of F n
  pub own_parent : parent_of G (length F) ≡ Some p
  pub items_there : items_of G p ≡ items_of F p ++ Child (length F) ∷ []
  pub items_same : (n : ℕ) → (p ≡ n → ⊥) → items_of G n ≡ items_of F n
  pub items_new : items_of G (length F) ≡ []
  pub tree : IsTree G
  pub open_new : IsOpen G (length F)
  pub open_parent : IsOpen G p

pub adds : (F : Table) → IsTree F → (rule p : ℕ) → IsOpen F p → (G : Table) → IsGrown F rule (Some p) G → Adds F G rule p
adds F tree rule p open_p G (line, column, e) = subst (λ g. Adds F g rule p) (sym e) (record {
  count = length-grown F tree rule p line column open_p;
  parent_there = inside;
  rules = λ n h. rule_at_before (with_item F p (Child (length F))) _ n (omega (arith, length-with_item F p (Child (length F)))) ∙ rule_at-with_item F p (Child (length F)) n;
  own_rule = rule_at_last (with_item F p (Child (length F))) _ (length F) (sym (length-with_item F p (Child (length F))));
  parents = parent_of-grown F tree rule p line column open_p;
  own_parent = parent_of-added F tree rule p line column open_p;
  items_there = items_of-parent F tree rule p line column open_p;
  items_same = items_of-other F tree rule p line column open_p;
  items_new = items_of-other F tree rule p line column open_p (length F) (λ same. omega (arith, inside)) ∙ items_past F (length F) (omega arith);
  tree = IsTree-with_node F tree rule p line column open_p;
  open_new = open_added F rule (Some p) line column;
  open_parent = open_parent F tree rule p line column open_p;
})
  where
    inside : p < length F
    inside = open_inside F tree p open_p

pub some_same : {X : Type 0} {a b : X} → Some a ≡ Some b → a ≡ b
some_same e = cc

pub adds_grows : (m : ℕ) (F G : Table) (rule p x : ℕ) (node_of : List ℕ) → length node_of ≡ length F → Adds F G rule p → slice_get node_of p ≡ Some m → Grows m F node_of G (node_of ++ x ∷ [])
adds_grows m F G rule p x node_of each a of = record {
  longer = omega (arith, a.count);
  nodes = λ n w e. get_before node_of x n (slice_get_within node_of n w e) ∙ e;
  rules = a.rules;
  parents = a.parents;
  items = λ n w e other. a.items_same n (λ same. other (some_same (sym e ∙ ap (slice_get node_of) (sym same) ∙ of)));
}

-- nothing is filled in yet
pub fills_none : (F : Table) (p : ℕ) → IsTree F → Fills F F p
fills_none F p tree = record { count = refl; rules = λ n. refl; parents = λ n. refl; items = λ n other. refl; opened = λ n h. h; tree = tree }

-- one more terminal
pub fills_more : (F G : Table) (p : ℕ) → Fills F G p → IsOpen G p → (v : Value) (H : Table) → H ≡ with_item G p (Leaf v) → Fills F H p
fills_more F G p f open_p v H e = subst (λ h. Fills F h p) (sym e) (record {
  count = length-with_item G p (Leaf v) ∙ f.count;
  rules = λ n. rule_at-with_item G p (Leaf v) n ∙ f.rules n;
  parents = λ n. parent_of-with_item G p (Leaf v) n ∙ f.parents n;
  items = λ n other. items_of-with_item_other G p (Leaf v) n other ∙ f.items n other;
  opened = λ n h. open_kept G f.tree p n v (f.opened n h);
  tree = IsTree-leaf G (λ some. f.tree) p v open_p;
})

pub fills_grow : (m : ℕ) (F G : Table) (p : ℕ) (node_of : List ℕ) → length node_of ≡ length F → Fills F G p → slice_get node_of p ≡ Some m → Grows m F node_of G node_of
fills_grow m F G p node_of each f of = record {
  longer = omega (arith, f.count);
  nodes = λ n w e. e;
  rules = λ n h. f.rules n;
  parents = λ n h. f.parents n;
  items = λ n w e other. f.items n (λ same. other (some_same (sym e ∙ ap (slice_get node_of) (sym same) ∙ of)));
}

pub grows_on : (m : ℕ) (F G H : Table) (one two three : List ℕ) → Grows m F one G two → Grows m G two H three → Grows m F one H three
grows_on m F G H one two three a b = record {
  longer = omega (arith, a.longer, b.longer);
  nodes = λ n w e. b.nodes n w (a.nodes n w e);
  rules = λ n h. b.rules n (omega (arith, a.longer)) ∙ a.rules n h;
  parents = λ n h. b.parents n (omega (arith, a.longer)) ∙ a.parents n h;
  items = λ n w e other. b.items n w (a.nodes n w e) other ∙ a.items n w e other;
}

module _ (symbols : List FlatSymbol) (rules : List FlatRule) (shapes : List Shape) (W F : Table) (node_of : List ℕ) (each : length node_of ≡ length F) (m : ℕ) (G : Table) (more : List ℕ) (g : Grows m F node_of G more) where
  inside : (n w : ℕ) → slice_get node_of n ≡ Some w → n < length F
  inside n w e = let h = slice_get_within node_of n w e in omega (arith, each)

  pub stands_grows : (n w : ℕ) → IsNodeOf rules shapes F node_of n w → IsNodeOf rules shapes G more n w
  stands_grows n w (plain, of) = (λ cell. plain (cell.0, (cell.1.0, sym (g.rules n (inside n w of)) ∙ cell.1.1, cell.1.2), cell.2), g.nodes n w of)

  -- and nothing else stands for something among the earlier nodes
  pub stands_before : (n w : ℕ) → n < length F → IsNodeOf rules shapes G more n w → (of : (u : ℕ) × (slice_get node_of n ≡ Some u)) → IsNodeOf rules shapes F node_of n w
  stands_before n w h (plain, at) (u, of) = (λ cell. plain (cell.0, (cell.1.0, g.rules n h ∙ cell.1.1, cell.1.2), cell.2), of ∙ sym (g.nodes n u of) ∙ at)

  pub items_grow : (is ws : List (Item Value)) → AreItems rules shapes F node_of is ws → AreItems rules shapes G more is ws
  items_grow [] [] h = tt
  items_grow (Child n ∷ is) (Child w ∷ ws) (s, h) = (stands_grows n w s, items_grow is ws h)
  items_grow (Leaf v ∷ is) (Leaf u ∷ ws) (e, h) = (e, items_grow is ws h)
  items_grow [] (x ∷ ws) h = absurd h
  items_grow (Child n ∷ is) [] h = absurd h
  items_grow (Leaf v ∷ is) [] h = absurd h
  items_grow (Child n ∷ is) (Leaf u ∷ ws) h = absurd h
  items_grow (Leaf v ∷ is) (Child w ∷ ws) h = absurd h

  rule_grows : (n w : ℕ) (r : FlatRule) → slice_get node_of n ≡ Some w → HasRule rules F n r → HasRule rules G n r
  rule_grows n w r of (i, e, got) = (i, g.rules n (inside n w of) ∙ e, got)

  pub cell_grows : (cell : SymId) (w c e x : ℕ) → IsCellOf symbols rules shapes W F node_of cell w c e x → IsCellOf symbols rules shapes W G more cell w c e x
  cell_grows cell w c e x k = record {
    rule = k.rule;
    element = k.element;
    has_rule = rule_grows c w k.rule k.of_list k.has_rule;
    has_element = rule_grows e x k.element k.stands.1 k.has_element;
    left = k.left;
    right = k.right;
    of_list = g.nodes c w k.of_list;
    stands = stands_grows e x k.stands;
  }

  module _ (cell : SymId) (w : ℕ) (other : w ≡ m → ⊥) where
    pub chain_grows : (p : ℕ) (before : List (Item Value)) (xs : List ℕ) (tail : ℕ) → IsChain symbols rules shapes W F node_of cell w p before xs tail → IsChain symbols rules shapes W G more cell w p before xs tail
    chain_grows p before [] tail (same, items, of) = (same, g.items p w of other ∙ items, g.nodes p w of)
    chain_grows p before (x ∷ xs) tail (c, e, items, of, lt, k, rest) = (c, e, g.items p w of other ∙ items, g.nodes p w of, lt, cell_grows cell w c e x k, chain_grows c (Child e ∷ []) xs tail rest)

    pub cells_grow : (c : ℕ) (xs : List ℕ) → AreCells rules shapes F node_of cell w c xs → AreCells rules shapes G more cell w c xs
    cells_grow c [] (r, has, left, right, items, of) = (r, rule_grows c w r of has, left, right, g.items c w of other ∙ items, g.nodes c w of)
    cells_grow c (x ∷ xs) (r, element, e, next, has, has_e, left, right, items, of, stands, rest) = (r, element, e, next, rule_grows c w r of has, rule_grows e x element stands.1 has_e, left, right, g.items c w of other ∙ items, g.nodes c w of, stands_grows e x stands, cells_grow next xs rest)

    pub up_to_grows : (list : Bool) (f done tail : ℕ) → slice_get node_of f ≡ Some w → IsUpToAs symbols rules shapes W F node_of list cell w f done tail → IsUpToAs symbols rules shapes W G more list cell w f done tail
    up_to_grows false f done tail of (same, h) = (same, subst (λ is. AreItems rules shapes G more is (take done (items_of W w))) (sym (g.items f w of other)) (items_grow (items_of F f) (take done (items_of W w)) h))
    up_to_grows true f done tail of h = chain_grows f [] (filter_map child_number (take done (items_of W w))) tail h

    pub whole_grows : (list : Bool) (f : ℕ) → slice_get node_of f ≡ Some w → IsWholeAs symbols rules shapes W F node_of list cell w f → IsWholeAs symbols rules shapes W G more list cell w f
    whole_grows false f of h = subst (λ is. AreItems rules shapes G more is (items_of W w)) (sym (g.items f w of other)) (items_grow (items_of F f) (items_of W w) h)
    whole_grows true f of (c, items, h) = (c, g.items f w of other ∙ items, cells_grow c (children W w) h)
