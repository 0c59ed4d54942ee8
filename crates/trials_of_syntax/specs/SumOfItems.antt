-- The sum of the numbers of a list's items:
--   ATTR n: int;
--   RULE rTop: Top LISTOF Item COMPUTE PTGOut(PTGNumb(CONSTITUENTS Item.n WITH (int, ADD, IDENTICAL, ZERO))); END;
--   RULE rItem: Item ::= Num COMPUTE Item.n = Num; END;
use Rattle.std.specs.Prelude.{ℕ, pos, [], ◌∷◌}
use Rattle.lido_base.specs.declared.value.ValueType.TheVariants as type
use Rattle.lido_base.specs.Plain.{Plain, Int}
use Rattle.lido_base.specs.Tree.{Tree, Child, Leaf}
use Rattle.lido_syntax.specs.declared.spec.Spec.{Spec}
use Rattle.lido_syntax.specs.declared.spec.Comp.{Comp}
use Rattle.lido_syntax.specs.declared.spec.Cons.{Cons}
use Rattle.lido_syntax.specs.declared.spec.Expr.TheVariants as expr
use Rattle.lido_syntax.specs.declared.spec.RuleItem.{RuleItem}
use Rattle.lido_syntax.specs.declared.spec.Target.TheVariants as target
use Rattle.lido_syntax.specs.Assignment.{Assignment, Attribute}
use Rattle.trials_of_syntax.specs.Writing.{call, terminal, named, attr, comp, constituents, as_a_sum, plain_rule, list_rule, declaration, of_rules, root, node, assigned, PTGNumb}

abbrev pub Top : ℕ
Top = 20

abbrev pub Item : ℕ
Item = 21

abbrev pub Num : ℕ
Num = 22

abbrev pub n : ℕ
n = 30

abbrev pub sum : Cons
sum = constituents 1 Item n [] as_a_sum

abbrev pub out : Comp
out = comp 0 target.Out (call PTGNumb (expr.Constituents sum ∷ []))

abbrev pub number : Comp
number = comp 2 (attr (named Item) n) (terminal Num)

abbrev pub top_rule : RuleItem
top_rule = list_rule Top (Item ∷ []) (out ∷ [])

abbrev pub item_rule : RuleItem
item_rule = plain_rule Item (Num ∷ []) (number ∷ [])

abbrev pub spec : Spec
spec = of_rules (top_rule ∷ item_rule ∷ []) (declaration n type.Int ∷ []) [] []

-- the same without its ATTR item
abbrev pub undeclared : Spec
undeclared = of_rules (top_rule ∷ item_rule ∷ []) [] [] []

-- the same without the computation of an item's number
abbrev pub without_a_number : Spec
without_a_number = of_rules (top_rule ∷ plain_rule Item (Num ∷ []) [] ∷ []) (declaration n type.Int ∷ []) [] []

-- (rTop (rItem 5) (rItem 6))
abbrev pub tree : Tree Plain
tree = root 0 (Child 1 ∷ Child 2 ∷ []) ∷ node 1 0 1 (Leaf (Int (pos 5)) ∷ []) ∷ node 1 0 2 (Leaf (Int (pos 6)) ∷ []) ∷ []

-- (rTop)
abbrev pub empty_tree : Tree Plain
empty_tree = root 0 [] ∷ []

-- (rTop 5), (rItem 5) and (rTop (rItem))
abbrev pub number_in_a_list : Tree Plain
number_in_a_list = root 0 (Leaf (Int (pos 5)) ∷ []) ∷ []

abbrev pub item_at_the_root : Tree Plain
item_at_the_root = root 1 (Leaf (Int (pos 5)) ∷ []) ∷ []

abbrev pub item_without_a_number : Tree Plain
item_without_a_number = root 0 (Child 1 ∷ []) ∷ node 1 0 1 [] ∷ []

abbrev pub numbers : Assignment
numbers = assigned ((1, Attribute n, Int (pos 5)) ∷ (2, Attribute n, Int (pos 6)) ∷ [])

abbrev pub wrong_numbers : Assignment
wrong_numbers = assigned ((1, Attribute n, Int (pos 5)) ∷ (2, Attribute n, Int (pos 7)) ∷ [])

-- a value too many, at the root
abbrev pub too_many_numbers : Assignment
too_many_numbers = assigned ((0, Attribute n, Int (pos 11)) ∷ (1, Attribute n, Int (pos 5)) ∷ (2, Attribute n, Int (pos 6)) ∷ [])
