use Rattle.std.specs.Prelude.{◌≡◌, ℕ, zero, suc, ◌<◌, true, false, refl, [], ◌∷◌, All, length, pos}
use Rattle.std.specs.List.{AllZip}
use Rattle.std.proofs.Common.{arith, rules, subst, sym, inr}
use Rattle.lido_base.specs.declared.value.ValueType.TheVariants as type
use Rattle.lido_base.specs.Plain.{Int}
use Rattle.lido_base.specs.Tree.{ancestors, Leaf, Child, items_of}
use Rattle.lido_base.proofs.TreeTests.{IsTested, tested-IsTree}
use Rattle.lido_syntax.specs.declared.spec.RuleItem.{RuleItem}
use Rattle.lido_syntax.specs.Production.{left_of, right_of}
use Rattle.lido_syntax.specs.Symbols.{IsTerminal, IsRoot, IsOnRightSide}
use Rattle.lido_syntax.specs.Nodes.{IsAt, HasSymbol}
use Rattle.lido_syntax.specs.Fitting.{IsItem, IsElement, IsFitting}
use Rattle.lido_syntax.specs.Fitting as fitting
use Rattle.trials_of_syntax.specs.SumOfItems.{spec, tree, empty_tree, number_in_a_list, item_at_the_root, item_without_a_number, top_rule, item_rule, Top, Item, Num}
use Rattle.trials_of_syntax.proofs.Members.{same_Some}
use Rattle.trials_of_syntax.proofs.RulesOnly.{rule_of}
use Rattle.trials_of_syntax.proofs.SumOfItemsLemmas.{by_node}
use Rattle.trials_of_syntax.proofs.whole.fitting_trees.Goals as goal

tested : IsTested tree
unfolding ancestors
tested = record { has_root = refl; root_first = refl; root_place = refl; in_preorder = refl; items_agree = refl; children_inside = refl; parents_inside = refl; children_ascend = refl; places_agree = refl }

tested_empty : IsTested empty_tree
tested_empty = record { has_root = refl; root_first = refl; root_place = refl; in_preorder = refl; items_agree = refl; children_inside = refl; parents_inside = refl; children_ascend = refl; places_agree = refl }

top_root : IsRoot spec Top
top_root = (refl, (λ h. cc))

num_terminal : IsTerminal spec Num type.Int
num_terminal = ((λ h. cc), inr (refl, (λ other h. omega (arith, h.1.1)), refl))

five : IsItem spec tree Num (Leaf (Int (pos 5)))
five = fitting.int num_terminal (search rules) (search rules)

six : IsItem spec tree Num (Leaf (Int (pos 6)))
six = fitting.int num_terminal (search rules) (search rules)

ruled : (m : ℕ) → m < length tree → (r : RuleItem) × IsAt spec tree m r
ruled zero h = (top_rule, (0, refl, refl))
ruled (suc zero) h = (item_rule, (1, refl, refl))
ruled (suc (suc zero)) h = (item_rule, (1, refl, refl))
ruled (suc (suc (suc m))) h = absurd (omega arith)

element : (c : ℕ) → HasSymbol spec tree c Item → IsElement spec tree (Item ∷ []) (Child c)
element c h = (c, Item, refl, refl, h)

elements : All (IsElement spec tree (Item ∷ [])) (items_of tree 0)
elements zero d h = element 1 (item_rule, (1, refl, refl), refl)
elements (suc zero) d h = element 2 (item_rule, (1, refl, refl), refl)
elements (suc (suc k)) d h = absurd (omega arith)

-- a tree of one node, whose rule this is
alone : (r : RuleItem) → IsAt spec empty_tree 0 r → r ≡ top_rule
alone r at = sym (same_Some _ _ (rule_of spec.rules spec.attrs spec.terms spec.chains empty_tree 0 r at))

empty : IsFitting spec empty_tree
empty = record {
  tree = tested-IsTree empty_tree tested_empty;
  root = (Top, top_root, (top_rule, (0, refl, refl), refl));
  ruled = one;
  plain = plain;
  lists = lists;
}
  where
    past : (m : ℕ) (r : RuleItem) → ¬ IsAt spec empty_tree (suc m) r
    past m r at = let none = rule_of spec.rules spec.attrs spec.terms spec.chains empty_tree (suc m) r at in cc

    one : (m : ℕ) → m < length empty_tree → (r : RuleItem) × IsAt spec empty_tree m r
    one zero h = (top_rule, (0, refl, refl))
    one (suc m) h = absurd (omega arith)

    plain : (m : ℕ) (r : RuleItem) → IsAt spec empty_tree m r → r.list ≡ false → AllZip (IsItem spec empty_tree) (right_of r) (items_of empty_tree m)
    plain zero r at e = let same : r ≡ top_rule = alone r at in absurd (let list : top_rule.list ≡ false = subst (λ (r : RuleItem). r.list ≡ false) same e in cc)
    plain (suc m) r at e = absurd (past m r at)

    lists : (m : ℕ) (r : RuleItem) → IsAt spec empty_tree m r → r.list ≡ true → All (IsElement spec empty_tree (right_of r)) (items_of empty_tree m)
    lists zero r at e = λ k d h. absurd (omega (arith, h))
    lists (suc m) r at e = absurd (past m r at)

number_refused : ¬ IsFitting spec number_in_a_list
number_refused f = let x = f.lists 0 top_rule (0, refl, refl) refl 0 (Child 0) (omega arith) in cc (x.2)

root_refused : ¬ IsFitting spec item_at_the_root
root_refused f = let same : item_rule ≡ f.root.2.0 = same_Some _ _ (rule_of spec.rules spec.attrs spec.terms spec.chains item_at_the_root 0 f.root.2.0 f.root.2.1) in
    let item : Item ≡ f.root.0 = subst (λ r. left_of r ≡ f.root.0) (sym same) f.root.2.2 in
    f.root.1.1 (subst (λ s. IsOnRightSide spec s) item refl)

missing_refused : ¬ IsFitting spec item_without_a_number
missing_refused f = f.plain 1 item_rule (1, refl, refl) refl

pub returns : goal.returns
returns c = record {
  items = record {
    tree = tested-IsTree tree tested;
    root = (Top, top_root, (top_rule, (0, refl, refl), refl));
    ruled = ruled;
    plain = by_node (λ m r. r.list ≡ false → AllZip (IsItem spec tree) (right_of r) (items_of tree m)) (λ e. cc) (λ e. (five, tt)) (λ e. (six, tt));
    lists = by_node (λ m r. r.list ≡ true → All (IsElement spec tree (right_of r)) (items_of tree m)) (λ e. elements) (λ e. cc) (λ e. cc);
  };
  empty = empty;
  number = number_refused;
  root = root_refused;
  missing = missing_refused;
}
