-- The trees of two items: the flat tree is the written one's, which fits; a chain without its end and a list in a list are refused.
use Rattle.std.specs.Prelude.{slice_get, Contains, All, true, false, pos}
use Rattle.std.proofs.Common.{◌≡◌, ℕ, zero, suc, ◌+◌, ◌<◌, ◌≤◌, ◌⊎◌, inl, inr, List, [], ◌∷◌, length, Option, Some, None, refl, arith, ap, sym, subst, ◌∙◌}
use Rattle.std.specs.Int.Signed.{le_z_yes, lt_z_yes}
use Rattle.std.specs.Prelude.{IsSome, ◌↔◌, option_and_then, unwrap_or, is_some}
use Rattle.std.specs.Fmt.{digits}
use Rattle.std.proofs.lemmas.Bool.{cases_lt}
use Rattle.std.proofs.lemmas.Option.{slice_get_past}
use Rattle.lido_base.specs.Operations.{operate}
use Rattle.lido_base.specs.Plain.{Plain, Int, Text, Void}
use Rattle.lido_base.specs.Tree.{Tree, Item, Child, ancestors, rule_at, line_of, column_of, items_of, children, IsTree}
use Rattle.lido_base.specs.declared.ids.SymId.{SymId}
use Rattle.std.specs.List.{AllZip}
use Rattle.std.proofs.lemmas.Option.{none-some}
use Rattle.flat_grammar.specs.declared.flat.FlatRule.{FlatRule}
use Rattle.flat_grammar.specs.declared.flat.Shape.{Shape}
use Rattle.flat_grammar.specs.FlatTrees.{IsCellNode, IsNodeOf, AreCells, AreItems, IsFlatTree, is_cell}
use Rattle.flat_grammar.specs.Fitting.{IsFitting, IsItem, HasShape, node, int, instances, text_cells}
use Rattle.flat_grammar.specs.declared.flat.FlatComp.{FlatComp}
use Rattle.flat_grammar.specs.Rules.{HasRule, attrs_of}
use Rattle.flat_grammar.specs.WholeOrder.{Instance, node_at}
use Rattle.flat_grammar.specs.Instances.{IsInstance, IsGrown, IsOf, instance_at}
use Rattle.flat_grammar.specs.FlatAttribution.{IsFlatAttribution, as_typed, value_of}
use Rattle.flat_grammar.specs.WellFormed.{cell_of, attribute_of}
use Rattle.flat_grammar.proofs.Lists.{held, contains-first, contains-later, contains-cons, contains-nil}
use Rattle.trials_of_grammar.specs.ListOfItems.{symbol, symbols, rules, list_rule, item_rule, cell_rule, end_rule, con_of_cell, shapes, list_shape, item_shape, root}
use Rattle.trials_of_grammar.specs.ItemTrees.{two_items, cells_at, two_cells, no_names, node_of_two, no_end, node_of_no_end, list_in_list, sums, wrong_sums, in_table}
use Rattle.trials_of_grammar.proofs.Finite.{never, all-of, each-of, rule-is, numbers-apart}
use Rattle.trials_of_grammar.proofs.TestedTrees.{tree-tested}

pub written-tree : IsTree two_items
unfolding ancestors
written-tree = tree-tested two_items (record { has_root = omega arith; root_first = refl; root_place = refl; in_preorder = refl; items_agree = refl; children_within = refl; parents_within = refl; children_ascend = refl; places_agree = refl })

pub cells-tree : IsTree two_cells
unfolding ancestors
cells-tree = tree-tested two_cells (record { has_root = omega arith; root_first = refl; root_place = refl; in_preorder = refl; items_agree = refl; children_within = refl; parents_within = refl; children_ascend = refl; places_agree = refl })

list-in : Contains shapes list_shape
list-in = contains-first list_shape (item_shape ∷ [])

item-in : Contains shapes item_shape
item-in = contains-later list_shape item_shape (item_shape ∷ []) (contains-first item_shape [])

abbrev S : ℕ → ℕ → Type 0
S n w = IsNodeOf rules shapes two_cells node_of_two n w

no-cell : (t : Tree Plain) (node_of : List ℕ) (n i : ℕ) (s : FlatRule) → rule_at t n ≡ Some i → slice_get rules i ≡ Some s → is_cell rules shapes s.left ≡ false → ¬ IsCellNode rules shapes t n
no-cell t node_of n i s e f none = λ h. never (sym none ∙ (ap (λ (q : FlatRule). is_cell rules shapes q.left) (rule-is rules t n i h.0 s e f h.1) ∙ h.2))

first-stands : S 0 0
first-stands = (no-cell two_cells node_of_two 0 0 list_rule refl refl refl, refl)

second-stands : S 2 1
second-stands = (no-cell two_cells node_of_two 2 1 item_rule refl refl refl, refl)

third-stands : S 4 2
third-stands = (no-cell two_cells node_of_two 4 1 item_rule refl refl refl, refl)

-- nodes 0, 2 and 4 stand for 0, 1 and 2, and no other stands for any
stands : (P : ℕ → ℕ → Type 0) → P 0 0 → P 2 1 → P 4 2 → (n w : ℕ) → S n w → P n w
stands P a b c zero w h = subst (λ v. P 0 v) (held h.1) a
stands P a b c (suc zero) w h = absurd (h.0 (cell_rule, (2, refl, refl), refl))
stands P a b c (suc (suc zero)) w h = subst (λ v. P 2 v) (held h.1) b
stands P a b c (suc (suc (suc zero))) w h = absurd (h.0 (cell_rule, (2, refl, refl), refl))
stands P a b c (suc (suc (suc (suc zero)))) w h = subst (λ v. P 4 v) (held h.1) c
stands P a b c (suc (suc (suc (suc (suc zero))))) w h = absurd (h.0 (end_rule, (3, refl, refl), refl))
stands P a b c (suc (suc (suc (suc (suc (suc n)))))) w h = absurd (none-some _ h.1)

-- the written node of each flat node
each-node : (P : ℕ → ℕ → Type 0) → P 0 0 → P 1 0 → P 2 1 → P 3 0 → P 4 2 → P 5 0 → (n w : ℕ) → slice_get node_of_two n ≡ Some w → P n w
each-node P a b c d e f zero w h = subst (P 0) (held h) a
each-node P a b c d e f (suc zero) w h = subst (P 1) (held h) b
each-node P a b c d e f (suc (suc zero)) w h = subst (P 2) (held h) c
each-node P a b c d e f (suc (suc (suc zero))) w h = subst (P 3) (held h) d
each-node P a b c d e f (suc (suc (suc (suc zero)))) w h = subst (P 4) (held h) e
each-node P a b c d e f (suc (suc (suc (suc (suc zero))))) w h = subst (P 5) (held h) f
each-node P a b c d e f (suc (suc (suc (suc (suc (suc n)))))) w h = absurd (none-some _ h)

-- a cell with the line of its element
pub line-of-the-element : ¬ IsFlatTree rules shapes two_items (cells_at 3 1) node_of_two
line-of-the-element f = numbers-apart 3 1 refl (f.same_lines 1 0 refl)

-- a cell with the column of its element
pub column-of-the-element : ¬ IsFlatTree rules shapes two_items (cells_at 1 7) node_of_two
column-of-the-element f = numbers-apart 7 1 refl (f.same_columns 1 0 refl)

twice : (n w : ℕ) → S n w → n ≡ w + w
twice = stands (λ n w. n ≡ w + w) refl refl refl

all-stand : (w : ℕ) → w < 3 → (n : ℕ) × S n w
all-stand zero l = (0, first-stands)
all-stand (suc zero) l = (2, second-stands)
all-stand (suc (suc zero)) l = (4, third-stands)
all-stand (suc (suc (suc w))) l = absurd (omega (arith, l))

abbrev PlainAt : Shape → Type 0
PlainAt shape = (n w : ℕ) → S n w → rule_at two_cells n ≡ Some shape.rule.0 → shape.list ≡ false → AreItems rules shapes two_cells node_of_two (items_of two_cells n) (items_of two_items w)

abbrev ListAt : Shape → Type 0
ListAt shape = (n w : ℕ) → S n w → rule_at two_cells n ≡ Some shape.rule.0 → shape.list ≡ true
    → (c : ℕ) × (items_of two_cells n ≡ Child c ∷ []) × AreCells rules shapes two_cells node_of_two (cell_of rules shape) w c (children two_items w)

cells : AreCells rules shapes two_cells node_of_two (symbol 3) 0 1 (1 ∷ 2 ∷ [])
cells = (
  cell_rule,
  item_rule,
  2,
  3,
  (2, refl, refl),
  (1, refl, refl),
  refl,
  refl,
  refl,
  refl,
  second-stands,
  (
    cell_rule,
    item_rule,
    4,
    5,
    (2, refl, refl),
    (1, refl, refl),
    refl,
    refl,
    refl,
    refl,
    third-stands,
    (end_rule, (3, refl, refl), refl, refl, refl, refl),
  ),
)

plain-at : PlainAt item_shape
plain-at = stands (λ n w. rule_at two_cells n ≡ Some 1 → false ≡ false → AreItems rules shapes two_cells node_of_two (items_of two_cells n) (items_of two_items w))
    (λ e f. absurd (numbers-apart 0 1 refl (held e))) (λ e f. (refl, tt)) (λ e f. (refl, tt))

list-at : ListAt list_shape
list-at = stands (λ n w. rule_at two_cells n ≡ Some 0 → true ≡ true → (c : ℕ) × (items_of two_cells n ≡ Child c ∷ []) × AreCells rules shapes two_cells node_of_two (symbol 3) w c (children two_items w))
    (λ e f. (1, refl, cells)) (λ e f. absurd (numbers-apart 1 0 refl (held e))) (λ e f. absurd (numbers-apart 1 0 refl (held e)))

pub flat-tree : IsFlatTree rules shapes two_items two_cells node_of_two
flat-tree = record {
  tree = cells-tree;
  each_node = refl;
  same_root = first-stands;
  in_order = λ n m w x a b l. let e = twice n w a in let f = twice m x b in omega (arith, e, f, l);
  all_written = all-stand;
  same_rules = stands (λ n w. rule_at two_cells n ≡ rule_at two_items w) refl refl refl;
  same_lines = each-node (λ n w. line_of two_cells n ≡ line_of two_items w) refl refl refl refl refl refl;
  same_columns = each-node (λ n w. column_of two_cells n ≡ column_of two_items w) refl refl refl refl refl refl;
  plain_nodes = λ n w shape m s e f. each-of PlainAt shapes ((λ i j h k g. never (sym g)), (plain-at, tt)) shape m n w s e f;
  list_nodes = λ n w shape m s e f. each-of ListAt shapes (list-at, ((λ i j h k g. never g), tt)) shape m n w s e f;
}

first_child : List (Item Plain) → ℕ
first_child (Child c ∷ more) = c
first_child _ = 0

second_child : List (Item Plain) → ℕ
second_child (p ∷ more) = first_child more
second_child _ = 0

-- the second cell has an element and no next cell
pub end-left-out : ¬ IsFlatTree rules shapes two_items no_end node_of_no_end
unfolding first_child second_child
end-left-out f =
    let root = f.list_nodes 0 0 list_shape list-in (no-cell no_end node_of_no_end 0 0 list_rule refl refl refl, refl) refl refl in
    let at : 1 ≡ root.0 = ap first_child root.1 in
    let whole = subst (λ c. AreCells rules shapes no_end node_of_no_end (symbol 3) 0 c (1 ∷ 2 ∷ [])) (sym at) root.2 in
    let next : 3 ≡ whole.3 = ap second_child whole.8 in
    let rest = subst (λ c. AreCells rules shapes no_end node_of_no_end (symbol 3) 0 c (2 ∷ [])) (sym next) whole.11 in
    let e : 1 ≡ 2 = ap length rest.8 in absurd (omega (arith, e))

abbrev PlainFits : Shape → Type 0
PlainFits shape = (n : ℕ) → rule_at two_items n ≡ Some shape.rule.0 → shape.list ≡ false → AllZip (IsItem symbols rules two_items) shape.right (items_of two_items n)

abbrev ListFits : Shape → Type 0
ListFits shape = (n : ℕ) → rule_at two_items n ≡ Some shape.rule.0 → shape.list ≡ true → All (λ p. (s : SymId) × Contains shape.right s × IsItem symbols rules two_items s p) (items_of two_items n)

shaped : (n : ℕ) → n < 3 → (shape : Shape) × HasShape shapes two_items n shape
shaped zero l = (list_shape, (list-in, refl))
shaped (suc zero) l = (item_shape, (item-in, refl))
shaped (suc (suc zero)) l = (item_shape, (item-in, refl))
shaped (suc (suc (suc n))) l = absurd (omega (arith, l))

plain-fits : PlainFits item_shape
plain-fits zero e f = absurd (numbers-apart 0 1 refl (held e))
plain-fits (suc zero) e f = (int (_, refl, refl) (le_z_yes tt) (lt_z_yes tt), tt)
plain-fits (suc (suc zero)) e f = (int (_, refl, refl) (le_z_yes tt) (lt_z_yes tt), tt)
plain-fits (suc (suc (suc n))) e f = absurd (none-some _ e)

abbrev ElementFits : Item Plain → Type 0
ElementFits p = (s : SymId) × Contains list_shape.right s × IsItem symbols rules two_items s p

list-fits : ListFits list_shape
list-fits zero e f = all-of ElementFits (Child 1 ∷ Child 2 ∷ []) ((symbol 1, contains-first (symbol 1) [], node (item_rule, (1, refl, refl), refl)), ((symbol 1, contains-first (symbol 1) [], node (item_rule, (1, refl, refl), refl)), tt))
list-fits (suc zero) e f = absurd (numbers-apart 1 0 refl (held e))
list-fits (suc (suc zero)) e f = absurd (numbers-apart 1 0 refl (held e))
list-fits (suc (suc (suc n))) e f = absurd (none-some _ e)

pub fitting : IsFitting symbols rules shapes root two_items
fitting = record {
  tree = written-tree;
  root_node = (list_rule, (0, refl, refl), refl);
  shaped = shaped;
  plain = λ n shape h f. each-of PlainFits shapes ((λ i e g. never (sym g)), (plain-fits, tt)) shape h.0 n h.1 f;
  lists = λ n shape h f. each-of ListFits shapes (list-fits, ((λ i e g. never g), tt)) shape h.0 n h.1 f;
}

no-element : (s : SymId) → Contains list_shape.right s → IsItem symbols rules list_in_list s (Child 1) → ⊥
no-element s m (node (r, h, e)) = go (contains-cons (symbol 1) s [] m)
  where
    go : (symbol 1 ≡ s) ⊎ Contains [] s → ⊥
    go (inl f) = numbers-apart 0 1 refl (ap (λ (q : SymId). q.0) (ap (λ (q : FlatRule). q.left) (rule-is rules list_in_list 1 0 r list_rule refl refl h) ∙ (e ∙ sym f)))
    go (inr k) = contains-nil s k

-- a list is no item
pub list-no-item : ¬ IsFitting symbols rules shapes root list_in_list
list-no-item f = let p = f.lists 0 list_shape (list-in, refl) refl 0 (Child 0) (omega arith) in no-element p.0 p.1 p.2

pub eight-instances : instances symbols rules two_cells ≡ 8
eight-instances = refl

pub two-text_cells : text_cells symbols rules two_cells ≡ 2
two-text_cells = refl

-- the values of the instances, and the first cell without its element
abbrev Sums : Instance → Option Plain
Sums = in_table sums

row-of : (n : ℕ) (row : List Plain) → slice_get sums n ≡ Some row → (r : FlatRule) × HasRule rules two_cells n r × (length row ≡ length (attrs_of symbols r.left))
row-of zero row e = (list_rule, (0, refl, refl), ap length (sym (held e)))
row-of (suc zero) row e = (cell_rule, (2, refl, refl), ap length (sym (held e)))
row-of (suc (suc zero)) row e = (item_rule, (1, refl, refl), ap length (sym (held e)))
row-of (suc (suc (suc zero))) row e = (cell_rule, (2, refl, refl), ap length (sym (held e)))
row-of (suc (suc (suc (suc zero)))) row e = (item_rule, (1, refl, refl), ap length (sym (held e)))
row-of (suc (suc (suc (suc (suc zero))))) row e = (end_rule, (3, refl, refl), ap length (sym (held e)))
row-of (suc (suc (suc (suc (suc (suc n)))))) row e = absurd (none-some _ e)

-- what holds at each node's own rule
pub at-rules : (P : ℕ → FlatRule → Type 0) → P 0 list_rule → P 1 cell_rule → P 2 item_rule → P 3 cell_rule → P 4 item_rule → P 5 end_rule → (n : ℕ) (r : FlatRule) → HasRule rules two_cells n r → P n r
at-rules P a b c d e f zero r h = subst (λ s. P 0 s) (rule-is rules two_cells 0 0 r list_rule refl refl h) a
at-rules P a b c d e f (suc zero) r h = subst (λ s. P 1 s) (rule-is rules two_cells 1 2 r cell_rule refl refl h) b
at-rules P a b c d e f (suc (suc zero)) r h = subst (λ s. P 2 s) (rule-is rules two_cells 2 1 r item_rule refl refl h) c
at-rules P a b c d e f (suc (suc (suc zero))) r h = subst (λ s. P 3 s) (rule-is rules two_cells 3 2 r cell_rule refl refl h) d
at-rules P a b c d e f (suc (suc (suc (suc zero)))) r h = subst (λ s. P 4 s) (rule-is rules two_cells 4 1 r item_rule refl refl h) e
at-rules P a b c d e f (suc (suc (suc (suc (suc zero))))) r h = subst (λ s. P 5 s) (rule-is rules two_cells 5 3 r end_rule refl refl h) f
at-rules P a b c d e f (suc (suc (suc (suc (suc (suc n)))))) r h = absurd (none-some _ h.1)

some-below : (row : List Plain) (a : ℕ) → IsSome (slice_get row a) → a < length row
some-below row a h = go (cases_lt a (length row))
  where
    go : (a < length row) ⊎ (length row ≤ a) → a < length row
    go (inl l) = l
    go (inr l) = never (ap is_some (sym (slice_get_past row a l)) ∙ h)

below-some : (row : List Plain) (a : ℕ) → a < length row → IsSome (slice_get row a)
below-some [] a l = absurd (omega (arith, l))
below-some (v ∷ row) zero l = refl
below-some (v ∷ row) (suc a) l = below-some row a (omega (arith, l))

domain : (i : Instance) → IsSome (Sums i) ↔ IsInstance symbols rules two_cells i
domain (n, a) = (
  to (slice_get sums n) refl,
  λ p. at-rules (λ m r. a < length (attrs_of symbols r.left) → IsSome (Sums (m, a)))
      (below-some (Text (49 ∷ 49 ∷ []) ∷ []) a) (below-some (Int (pos 11) ∷ []) a) (below-some (Int (pos 5) ∷ Int (pos 5) ∷ []) a) (below-some (Int (pos 6) ∷ []) a) (below-some (Int (pos 6) ∷ Int (pos 6) ∷ []) a)
      (below-some (Int (pos 0) ∷ []) a) n p.0 p.1 p.2,
)
  where
    to : (o : Option (List Plain)) → slice_get sums n ≡ o → IsSome (option_and_then (λ (row : List Plain). slice_get row a) o) → IsInstance symbols rules two_cells (n, a)
    to None e h = never h
    to (Some row) e h = let p = row-of n row e in let l = some-below row a h in (p.0, p.1, subst (λ k. a < k) p.2 l)

abbrev Gives : (Instance → Option Plain) → ℕ → FlatRule → FlatComp → Type 0
Gives B n r c = B (instance_at two_cells n c.goal) ≡ Some (as_typed (attribute_of symbols r c.goal) (value_of no_names two_cells node_of_two (λ i. unwrap_or (B i) Void) (node_at two_cells n c.origin) n c.value))

values : (n : ℕ) (r : FlatRule) (c : FlatComp) → HasRule rules two_cells n r → Contains r.comps c → Gives Sums n r c
unfolding operate digits
values n r c h m = at-rules (λ k s. (d : FlatComp) → Contains s.comps d → Gives Sums k s d)
    (each-of (Gives Sums 0 list_rule) list_rule.comps (refl, tt)) (each-of (Gives Sums 1 cell_rule) cell_rule.comps (refl, tt)) (each-of (Gives Sums 2 item_rule) item_rule.comps (refl, (refl, tt)))
    (each-of (Gives Sums 3 cell_rule) cell_rule.comps (refl, tt)) (each-of (Gives Sums 4 item_rule) item_rule.comps (refl, (refl, tt))) (each-of (Gives Sums 5 end_rule) end_rule.comps (refl, tt)) n r h c m

pub sums-attribution : IsFlatAttribution symbols rules no_names two_cells node_of_two (in_table sums)
sums-attribution = record { domain = domain; values = values }

whole_number : Option Plain → ℕ
whole_number (Some (Int (pos n))) = n
whole_number _ = 0

-- the first cell has the rest's sum alone
pub wrong-sums : ¬ IsFlatAttribution symbols rules no_names two_cells node_of_two (in_table wrong_sums)
unfolding operate digits whole_number
wrong-sums w = let e : 6 ≡ 11 = ap whole_number (w.values 1 cell_rule con_of_cell (2, refl, refl) (contains-first con_of_cell [])) in absurd (omega (arith, e))

-- ---- each node of the flat tree has what its rule says

rule-of : (n : ℕ) → n < 6 → (r : FlatRule) × HasRule rules two_cells n r
rule-of zero l = (list_rule, (0, refl, refl))
rule-of (suc zero) l = (cell_rule, (2, refl, refl))
rule-of (suc (suc zero)) l = (item_rule, (1, refl, refl))
rule-of (suc (suc (suc zero))) l = (cell_rule, (2, refl, refl))
rule-of (suc (suc (suc (suc zero)))) l = (item_rule, (1, refl, refl))
rule-of (suc (suc (suc (suc (suc zero))))) l = (end_rule, (3, refl, refl))
rule-of (suc (suc (suc (suc (suc (suc n)))))) l = absurd (omega (arith, l))

abbrev Grows : ℕ → FlatRule → Type 0
Grows n r = AllZip (IsOf symbols rules two_cells) r.right (items_of two_cells n)

pub grown : IsGrown symbols rules two_cells root
grown = record {
  tree = cells-tree;
  root_node = (list_rule, (0, refl, refl), refl);
  nodes = rule-of;
  items = at-rules Grows ((cell_rule, (2, refl, refl), refl), tt) ((item_rule, (1, refl, refl), refl), ((cell_rule, (2, refl, refl), refl), tt)) ((_, refl, refl), tt)
      ((item_rule, (1, refl, refl), refl), ((end_rule, (3, refl, refl), refl), tt)) ((_, refl, refl), tt) tt;
}
