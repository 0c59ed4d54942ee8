-- Lines that a chain numbers, with a group inside that counts anew:
--   CHAIN no: int; ATTR text: PTGNode; TERM Name: string;
--   RULE rList: List LISTOF Item COMPUTE
--     CHAINSTART HEAD.no = 1;
--     PTGOut(CONSTITUENTS Item.text SHIELD Item WITH (PTGNode, PTGSeq, IDENTICAL, PTGNull));
--   END;
--   RULE rItem: Item ::= Name COMPUTE Item.text = PTGLine(Item.no, Name); Item.no = Item.no + 1; END;
--   RULE rSub: Item ::= Group COMPUTE Item.text = Group.text; END;
--   RULE rGroup: Group LISTOF Item COMPUTE
--     CHAINSTART HEAD.no = 10;
--     Group.text = CONSTITUENTS Item.text SHIELD Item WITH (PTGNode, PTGSeq, IDENTICAL, PTGNull);
--   END;
-- The pattern is Line: $ int " " $ string "\n".
use Rattle.std.specs.Prelude.{ℕ, pos, false, List, [], ◌∷◌, ◌++◌, codes}
use Rattle.lido_base.specs.declared.value.ValueType.TheVariants as type
use Rattle.lido_base.specs.declared.pattern.Part.{Part}
use Rattle.lido_base.specs.declared.pattern.PartPiece.{PartPiece}
use Rattle.lido_base.specs.declared.pattern.PartPiece.TheVariants.{Fixed, Arg}
use Rattle.lido_base.specs.Plain.{Plain, Int, Str, Text}
use Rattle.lido_base.specs.Tree.{Tree, Child, Leaf}
use Rattle.lido_syntax.specs.declared.spec.Spec.{Spec}
use Rattle.lido_syntax.specs.declared.spec.Comp.{Comp}
use Rattle.lido_syntax.specs.declared.spec.Cons.{Cons}
use Rattle.lido_syntax.specs.declared.spec.Expr.TheVariants as expr
use Rattle.lido_syntax.specs.declared.spec.RuleItem.{RuleItem}
use Rattle.lido_syntax.specs.declared.spec.Target.TheVariants as target
use Rattle.lido_syntax.specs.Assignment.{Assignment, Attribute, Front, Behind}
use Rattle.lido_base.specs.Environment.{Environment}
use Rattle.trials_of_syntax.specs.Writing.{Row, name, int, call, terminal, read, named, attr, comp, constituents, in_a_row, plain_rule, list_rule, declaration, typed, of_rules, root, node, assigned, function_texts, ADD}

abbrev pub Line : ℕ
Line = 11

abbrev pub PTGLine : ℕ
PTGLine = 14

abbrev pub part : PartPiece → Part
part piece = record { piece = piece; brace = false }

abbrev pub env : Environment
env = record {
  texts = function_texts ++ codes "Line" ∷ codes " " ∷ (10 ∷ []) ∷ codes "PTGLine" ∷ [];
  patterns = record { name = record { 0 = Line }; args = type.Int ∷ type.Str ∷ []; parts = part (Arg 1) ∷ part (Fixed (record { 0 = 12 })) ∷ part (Arg 2) ∷ part (Fixed (record { 0 = 13 })) ∷ [] } ∷ [];
}

abbrev pub Top : ℕ
Top = 20

abbrev pub Item : ℕ
Item = 21

abbrev pub Group : ℕ
Group = 22

abbrev pub Name : ℕ
Name = 23

abbrev pub no : ℕ
no = 30

abbrev pub text : ℕ
text = 31

abbrev pub from_one : Comp
from_one = comp 0 (target.Start (name no)) (int 1)

abbrev pub all_lines : Cons
all_lines = constituents 2 Item text (Item ∷ []) in_a_row

abbrev pub line : Comp
line = comp 3 (attr (named Item) text) (call PTGLine (read (named Item) no ∷ terminal Name ∷ []))

abbrev pub next : Comp
next = comp 4 (attr (named Item) no) (call ADD (read (named Item) no ∷ int 1 ∷ []))

abbrev pub from_ten : Comp
from_ten = comp 6 (target.Start (name no)) (int 10)

abbrev pub group_lines : Cons
group_lines = constituents 8 Item text (Item ∷ []) in_a_row

abbrev pub top_rule : RuleItem
top_rule = list_rule Top (Item ∷ []) (from_one ∷ comp 1 target.Out (expr.Constituents all_lines) ∷ [])

abbrev pub item_rule : RuleItem
item_rule = plain_rule Item (Name ∷ []) (line ∷ next ∷ [])

abbrev pub sub_rule : RuleItem
sub_rule = plain_rule Item (Group ∷ []) (comp 5 (attr (named Item) text) (read (named Group) text) ∷ [])

abbrev pub group_rule : RuleItem
group_rule = list_rule Group (Item ∷ []) (from_ten ∷ comp 7 (attr (named Group) text) (expr.Constituents group_lines) ∷ [])

abbrev pub spec : Spec
spec = of_rules (top_rule ∷ item_rule ∷ sub_rule ∷ group_rule ∷ []) (declaration text type.Text ∷ []) (typed Name type.Str ∷ []) (typed no type.Int ∷ [])

-- (rList (rItem "a") (rSub (rGroup (rItem "x") (rItem "y"))) (rItem "b"))
abbrev pub tree : Tree Plain
tree =
    root 0 (Child 1 ∷ Child 2 ∷ Child 6 ∷ [])
    ∷ node 1 0 1 (Leaf (Str (codes "a")) ∷ [])
    ∷ node 2 0 2 (Child 3 ∷ [])
    ∷ node 3 2 1 (Child 4 ∷ Child 5 ∷ [])
    ∷ node 1 3 1 (Leaf (Str (codes "x")) ∷ [])
    ∷ node 1 3 2 (Leaf (Str (codes "y")) ∷ [])
    ∷ node 1 0 3 (Leaf (Str (codes "b")) ∷ [])
    ∷ []

-- (rList)
abbrev pub empty_tree : Tree Plain
empty_tree = root 0 [] ∷ []

-- the text of one line
abbrev pub of_line : List ℕ → Plain
of_line bytes = Text (bytes ++ 10 ∷ [])

abbrev pub chain_row : ℕ → ℕ → ℕ → List Row
chain_row n front behind = (n, Front no, Int (pos front)) ∷ (n, Behind no, Int (pos behind)) ∷ []

-- what stands in front of each node and behind it: the group counts from 10, and the line behind it goes on with 2
abbrev pub counted : Assignment
counted = assigned (chain_row 1 1 2 ++ chain_row 2 2 2 ++ chain_row 3 2 2 ++ chain_row 4 10 11 ++ chain_row 5 11 12 ++ chain_row 6 2 3)

-- the same, but for a start of the group that leaks: the line behind it goes on with 12
abbrev pub leaked : Assignment
leaked = assigned (chain_row 1 1 2 ++ chain_row 2 2 12 ++ chain_row 3 2 12 ++ chain_row 4 10 11 ++ chain_row 5 11 12 ++ chain_row 6 12 13)

-- the texts of the items, and of the group as one
abbrev pub lines : Assignment
lines = assigned (
    (1, Attribute text, of_line (codes "1 a"))
    ∷ (2, Attribute text, Text (codes "10 x" ++ 10 ∷ codes "11 y" ++ 10 ∷ []))
    ∷ (4, Attribute text, of_line (codes "10 x"))
    ∷ (5, Attribute text, of_line (codes "11 y"))
    ∷ (6, Attribute text, of_line (codes "2 b"))
    ∷ [])
