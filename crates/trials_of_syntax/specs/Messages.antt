-- Messages of a rule and of its child's rule:
--   ATTR n: int;
--   RULE rTop: Top ::= Item COMPUTE
--     message(NOTE, "top", 0, COORDREF);
--     IF(6 / Item.n == 2, message(NOTE, "one", 0, COORDREF));
--     PTGOut(PTGNumb(6 / Item.n));
--   END;
--   RULE rItem: Item ::= Num COMPUTE
--     Item.n = 6 / Num;
--     IF(6 / Num == 6, message(WARNING, "one", 0, COORDREF));
--     message(ERROR, "top", 0, COORDREF);
--   END;
use Rattle.std.specs.Prelude.{ℕ, pos, false, true, List, [], ◌∷◌, ◌++◌, Some, None, codes}
use Rattle.lido_base.specs.declared.value.BadKind.TheVariants.{DivideByZero}
use Rattle.lido_base.specs.declared.value.Origin.{Origin}
use Rattle.lido_base.specs.declared.value.ValueType.TheVariants as type
use Rattle.lido_base.specs.Plain.{Plain, Int}
use Rattle.lido_base.specs.Tree.{Tree, Child, Leaf}
use Rattle.lido_syntax.specs.declared.spec.Spec.{Spec}
use Rattle.lido_syntax.specs.declared.spec.Comp.{Comp}
use Rattle.lido_syntax.specs.declared.spec.Expr.{Expr}
use Rattle.lido_syntax.specs.declared.spec.Expr.TheVariants as expr
use Rattle.lido_syntax.specs.declared.spec.RuleItem.{RuleItem}
use Rattle.lido_syntax.specs.declared.spec.Severity.TheVariants.{Note, Warning, Error}
use Rattle.lido_syntax.specs.declared.spec.Target.TheVariants as target
use Rattle.lido_syntax.specs.Assignment.{Assignment, Attribute}
use Rattle.trials_of_syntax.specs.Writing.{Row, int, str, call, terminal, read, named, attr, comp, message, plain_rule, declaration, of_rules, root, node, placed, assigned, DIV, EQ, IF, PTGNumb, top_text, one_text}

abbrev pub Top : ℕ
Top = 20

abbrev pub Item : ℕ
Item = 21

abbrev pub Num : ℕ
Num = 22

abbrev pub n : ℕ
n = 30

-- a == b, and 6 / a
abbrev pub equal : Expr → ℕ → Expr
equal a b = call EQ (a ∷ int b ∷ [])

abbrev pub six_by : Expr → Expr
six_by a = call DIV (int 6 ∷ a ∷ [])

abbrev pub top_note : Comp
top_note = message 0 Note None (str top_text)

abbrev pub two_condition : Expr
two_condition = equal (six_by (read (named Item) n)) 2

abbrev pub two_note : Comp
two_note = message 1 Note (Some two_condition) (str one_text)

abbrev pub out : Comp
out = comp 2 target.Out (call PTGNumb (six_by (read (named Item) n) ∷ []))

abbrev pub number : Comp
number = comp 3 (attr (named Item) n) (six_by (terminal Num))

abbrev pub one_condition : Expr
one_condition = equal (six_by (terminal Num)) 6

abbrev pub one_warning : Comp
one_warning = message 4 Warning (Some one_condition) (str one_text)

abbrev pub top_error : Comp
top_error = message 5 Error None (str top_text)

abbrev pub top_rule : RuleItem
top_rule = plain_rule Top (Item ∷ []) (top_note ∷ two_note ∷ out ∷ [])

abbrev pub item_rule : RuleItem
item_rule = plain_rule Item (Num ∷ []) (number ∷ one_warning ∷ top_error ∷ [])

abbrev pub spec : Spec
spec = of_rules (top_rule ∷ item_rule ∷ []) (declaration n type.Int ∷ []) [] []

-- (rTop@5:1 (rItem@3:2 z))
abbrev pub tree : ℕ → Tree Plain
tree z = placed 5 1 (root 0 (Child 1 ∷ [])) ∷ placed 3 2 (node 1 0 1 (Leaf (Int (pos z)) ∷ [])) ∷ []

abbrev pub rows : Plain → List Row
rows v = (1, Attribute n, v) ∷ []

-- the item's number has this value
abbrev pub numbered : Plain → Assignment
numbered v = assigned (rows v)

-- a division by zero at this node, in the computation of this number
abbrev pub zero_divisor : ℕ → ℕ → Origin
zero_divisor at comp = record { node = at; comp = comp; kind = DivideByZero }

-- computations that stand in no rule: 1 / 0 == 1 as the condition, as the text, and as the text behind a false condition
abbrev pub lost : Expr
lost = equal (call DIV (int 1 ∷ int 0 ∷ [])) 1

abbrev pub lost_text : Expr
lost_text = call IF (lost ∷ str top_text ∷ str one_text ∷ [])

abbrev pub bad_condition : Comp
bad_condition = message 6 Note (Some lost) (str top_text)

abbrev pub bad_text : Comp
bad_text = message 7 Note (Some (expr.Bool 0 true)) lost_text

abbrev pub never : Comp
never = message 8 Note (Some (expr.Bool 0 false)) lost_text

-- the notes for a divisor of 1: by node, there by number, and not by line
abbrev pub notes : List ℕ
notes = codes "5:1 NOTE: top" ++ 10 ∷ codes "3:2 WARNING: one" ++ 10 ∷ codes "3:2 ERROR: top" ++ 10 ∷ []
