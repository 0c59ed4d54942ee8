-- The trees of the split list: the written one fits, and the flat one is its flat tree.
use Rattle.std.specs.Prelude.{slice_get, Contains, All, true, false, refl}
use Rattle.std.proofs.Common.{◌≡◌, ℕ, zero, suc, ◌+◌, ◌<◌, [], ◌∷◌, Some, arith, ap, sym, subst, ◌∙◌}
use Rattle.std.specs.Int.Signed.{le_z_yes, lt_z_yes}
use Rattle.std.specs.List.{AllZip}
use Rattle.std.proofs.lemmas.Option.{none-some}
use Rattle.lido_base.specs.Plain.{Plain, plain_tree}
use Rattle.lido_base.specs.Tree.{Tree, Item, Child, ancestors, rule_at, line_of, column_of, items_of, children, IsTree}
use Rattle.lido_base.specs.declared.ids.SymId.{SymId}
use Rattle.flat_grammar.specs.declared.flat.FlatRule.{FlatRule}
use Rattle.flat_grammar.specs.declared.flat.Shape.{Shape}
use Rattle.flat_grammar.specs.FlatTrees.{IsCellNode, IsNodeOf, AreCells, AreItems, IsFlatTree, is_cell}
use Rattle.flat_grammar.specs.Fitting.{IsFitting, IsItem, HasShape, node, int}
use Rattle.flat_grammar.specs.WellFormed.{cell_of}
use Rattle.flat_grammar.proofs.Lists.{held, contains-first, contains-later}
use Rattle.trials_of_grammar.specs.ListOfItems.{symbol}
use Rattle.trials_of_grammar.proofs.Finite.{never, all-of, each-of, rule-is, numbers-apart}
use Rattle.trials_of_grammar.proofs.TestedTrees.{tree-tested}
use Rattle.trials_of_jobs.specs.SplitList.{symbols, rules, list_rule, item_rule, cell_rule, end_rule, shapes, list_shape, item_shape, written, flat, node_of}

abbrev plain_written : Tree Plain
plain_written = plain_tree [] written

written-tree : IsTree plain_written
unfolding ancestors
written-tree = tree-tested plain_written (record { has_root = omega arith; root_first = refl; root_place = refl; in_preorder = refl; items_agree = refl; children_within = refl; parents_within = refl; children_ascend = refl; places_agree = refl })

pub cells-tree : IsTree flat
unfolding ancestors
cells-tree = tree-tested flat (record { has_root = omega arith; root_first = refl; root_place = refl; in_preorder = refl; items_agree = refl; children_within = refl; parents_within = refl; children_ascend = refl; places_agree = refl })

list-in : Contains shapes list_shape
list-in = contains-first list_shape (item_shape ∷ [])

item-in : Contains shapes item_shape
item-in = contains-later list_shape item_shape (item_shape ∷ []) (contains-first item_shape [])

abbrev S : ℕ → ℕ → Type 0
S n w = IsNodeOf rules shapes flat node_of n w

no-cell : (n i : ℕ) (s : FlatRule) → rule_at flat n ≡ Some i → slice_get rules i ≡ Some s → is_cell rules shapes s.left ≡ false → ¬ IsCellNode rules shapes flat n
no-cell n i s e f none = λ h. never (sym none ∙ (ap (λ (q : FlatRule). is_cell rules shapes q.left) (rule-is rules flat n i h.0 s e f h.1) ∙ h.2))

first-stands : S 0 0
first-stands = (no-cell 0 0 list_rule refl refl refl, refl)

second-stands : S 2 1
second-stands = (no-cell 2 1 item_rule refl refl refl, refl)

third-stands : S 4 2
third-stands = (no-cell 4 1 item_rule refl refl refl, refl)

-- nodes 0, 2 and 4 stand for 0, 1 and 2, and no other stands for any
stands : (P : ℕ → ℕ → Type 0) → P 0 0 → P 2 1 → P 4 2 → (n w : ℕ) → S n w → P n w
stands P a b c zero w h = subst (λ v. P 0 v) (held h.1) a
stands P a b c (suc zero) w h = absurd (h.0 (cell_rule, (2, refl, refl), refl))
stands P a b c (suc (suc zero)) w h = subst (λ v. P 2 v) (held h.1) b
stands P a b c (suc (suc (suc zero))) w h = absurd (h.0 (cell_rule, (2, refl, refl), refl))
stands P a b c (suc (suc (suc (suc zero)))) w h = subst (λ v. P 4 v) (held h.1) c
stands P a b c (suc (suc (suc (suc (suc zero))))) w h = absurd (h.0 (end_rule, (3, refl, refl), refl))
stands P a b c (suc (suc (suc (suc (suc (suc n)))))) w h = absurd (none-some _ h.1)

-- the written node of each flat node
each-node : (P : ℕ → ℕ → Type 0) → P 0 0 → P 1 0 → P 2 1 → P 3 0 → P 4 2 → P 5 0 → (n w : ℕ) → slice_get node_of n ≡ Some w → P n w
each-node P a b c d e f zero w h = subst (P 0) (held h) a
each-node P a b c d e f (suc zero) w h = subst (P 1) (held h) b
each-node P a b c d e f (suc (suc zero)) w h = subst (P 2) (held h) c
each-node P a b c d e f (suc (suc (suc zero))) w h = subst (P 3) (held h) d
each-node P a b c d e f (suc (suc (suc (suc zero)))) w h = subst (P 4) (held h) e
each-node P a b c d e f (suc (suc (suc (suc (suc zero))))) w h = subst (P 5) (held h) f
each-node P a b c d e f (suc (suc (suc (suc (suc (suc n)))))) w h = absurd (none-some _ h)

twice : (n w : ℕ) → S n w → n ≡ w + w
twice = stands (λ n w. n ≡ w + w) refl refl refl

all-stand : (w : ℕ) → w < 3 → (n : ℕ) × S n w
all-stand zero l = (0, first-stands)
all-stand (suc zero) l = (2, second-stands)
all-stand (suc (suc zero)) l = (4, third-stands)
all-stand (suc (suc (suc w))) l = absurd (omega (arith, l))

abbrev PlainAt : Shape → Type 0
PlainAt shape = (n w : ℕ) → S n w → rule_at flat n ≡ Some shape.rule.0 → shape.list ≡ false → AreItems rules shapes flat node_of (items_of flat n) (items_of written w)

abbrev ListAt : Shape → Type 0
ListAt shape = (n w : ℕ) → S n w → rule_at flat n ≡ Some shape.rule.0 → shape.list ≡ true
    → (c : ℕ) × (items_of flat n ≡ Child c ∷ []) × AreCells rules shapes flat node_of (cell_of rules shape) w c (children written w)

cells : AreCells rules shapes flat node_of (symbol 3) 0 1 (1 ∷ 2 ∷ [])
cells = (
  cell_rule,
  item_rule,
  2,
  3,
  (2, refl, refl),
  (1, refl, refl),
  refl,
  refl,
  refl,
  refl,
  second-stands,
  (
    cell_rule,
    item_rule,
    4,
    5,
    (2, refl, refl),
    (1, refl, refl),
    refl,
    refl,
    refl,
    refl,
    third-stands,
    (end_rule, (3, refl, refl), refl, refl, refl, refl),
  ),
)

plain-at : PlainAt item_shape
plain-at = stands (λ n w. rule_at flat n ≡ Some 1 → false ≡ false → AreItems rules shapes flat node_of (items_of flat n) (items_of written w))
    (λ e f. absurd (numbers-apart 0 1 refl (held e))) (λ e f. (refl, tt)) (λ e f. (refl, tt))

list-at : ListAt list_shape
list-at = stands (λ n w. rule_at flat n ≡ Some 0 → true ≡ true → (c : ℕ) × (items_of flat n ≡ Child c ∷ []) × AreCells rules shapes flat node_of (symbol 3) w c (children written w))
    (λ e f. (1, refl, cells)) (λ e f. absurd (numbers-apart 1 0 refl (held e))) (λ e f. absurd (numbers-apart 1 0 refl (held e)))

pub flat-tree : IsFlatTree rules shapes written flat node_of
flat-tree = record {
  tree = cells-tree;
  each_node = refl;
  same_root = first-stands;
  in_order = λ n m w x a b l. let e = twice n w a in let f = twice m x b in omega (arith, e, f, l);
  all_written = all-stand;
  same_rules = stands (λ n w. rule_at flat n ≡ rule_at written w) refl refl refl;
  same_lines = each-node (λ n w. line_of flat n ≡ line_of written w) refl refl refl refl refl refl;
  same_columns = each-node (λ n w. column_of flat n ≡ column_of written w) refl refl refl refl refl refl;
  plain_nodes = λ n w shape m s e f. each-of PlainAt shapes ((λ i j h k g. never (sym g)), (plain-at, tt)) shape m n w s e f;
  list_nodes = λ n w shape m s e f. each-of ListAt shapes (list-at, ((λ i j h k g. never g), tt)) shape m n w s e f;
}

abbrev PlainFits : Shape → Type 0
PlainFits shape = (n : ℕ) → rule_at plain_written n ≡ Some shape.rule.0 → shape.list ≡ false → AllZip (IsItem symbols rules plain_written) shape.right (items_of plain_written n)

abbrev ListFits : Shape → Type 0
ListFits shape = (n : ℕ) → rule_at plain_written n ≡ Some shape.rule.0 → shape.list ≡ true → All (λ p. (s : SymId) × Contains shape.right s × IsItem symbols rules plain_written s p) (items_of plain_written n)

shaped : (n : ℕ) → n < 3 → (shape : Shape) × HasShape shapes plain_written n shape
shaped zero l = (list_shape, (list-in, refl))
shaped (suc zero) l = (item_shape, (item-in, refl))
shaped (suc (suc zero)) l = (item_shape, (item-in, refl))
shaped (suc (suc (suc n))) l = absurd (omega (arith, l))

plain-fits : PlainFits item_shape
plain-fits zero e f = absurd (numbers-apart 0 1 refl (held e))
plain-fits (suc zero) e f = (int (_, refl, refl) (le_z_yes tt) (lt_z_yes tt), tt)
plain-fits (suc (suc zero)) e f = (int (_, refl, refl) (le_z_yes tt) (lt_z_yes tt), tt)
plain-fits (suc (suc (suc n))) e f = absurd (none-some _ e)

abbrev ElementFits : Item Plain → Type 0
ElementFits p = (s : SymId) × Contains list_shape.right s × IsItem symbols rules plain_written s p

list-fits : ListFits list_shape
list-fits zero e f = all-of ElementFits (Child 1 ∷ Child 2 ∷ []) ((symbol 1, contains-first (symbol 1) [], node (item_rule, (1, refl, refl), refl)), ((symbol 1, contains-first (symbol 1) [], node (item_rule, (1, refl, refl), refl)), tt))
list-fits (suc zero) e f = absurd (numbers-apart 1 0 refl (held e))
list-fits (suc (suc zero)) e f = absurd (numbers-apart 1 0 refl (held e))
list-fits (suc (suc (suc n))) e f = absurd (none-some _ e)

pub fitting : IsFitting symbols rules shapes (symbol 0) plain_written
fitting = record {
  tree = written-tree;
  root_node = (list_rule, (0, refl, refl), refl);
  shaped = shaped;
  plain = λ n shape h f. each-of PlainFits shapes ((λ i e g. never (sym g)), (plain-fits, tt)) shape h.0 n h.1 f;
  lists = λ n shape h f. each-of ListFits shapes (list-fits, ((λ i e g. never g), tt)) shape h.0 n h.1 f;
}
