-- An attribute that is handed down, by rules to one symbol and by a class to another:
--   ATTR i: int;
--   CLASS SYMBOL Five COMPUTE INH.i = 5; END;
--   SYMBOL Right INHERITS Five END;
--   RULE rTop: Top ::= Left Right COMPUTE
--     Left.i = 3;
--     PTGOut(PTGNumb(CONSTITUENTS Five.i SHIELD Five WITH (int, ADD, IDENTICAL, ZERO) / 0));
--   END;
--   RULE rLeft: Left ::= 'x' END;
--   RULE rRight: Right ::= Left COMPUTE Left.i = Right.i / 0; END;
use Rattle.std.specs.Prelude.{ℕ, true, false, pos, List, [], ◌∷◌}
use Rattle.lido_base.specs.declared.value.BadKind.TheVariants.{DivideByZero}
use Rattle.lido_base.specs.declared.value.Origin.{Origin}
use Rattle.lido_base.specs.declared.value.ValueType.TheVariants as type
use Rattle.lido_base.specs.Plain.{Plain, Int, Bad}
use Rattle.lido_base.specs.Tree.{Tree, Child}
use Rattle.lido_syntax.specs.declared.spec.Spec.{Spec}
use Rattle.lido_syntax.specs.declared.spec.Comp.{Comp}
use Rattle.lido_syntax.specs.declared.spec.Cons.{Cons}
use Rattle.lido_syntax.specs.declared.spec.Expr.TheVariants as expr
use Rattle.lido_syntax.specs.declared.spec.Pair.{Pair}
use Rattle.lido_syntax.specs.declared.spec.Place.TheVariants as place
use Rattle.lido_syntax.specs.declared.spec.RuleItem.{RuleItem}
use Rattle.lido_syntax.specs.declared.spec.SymbolItem.{SymbolItem}
use Rattle.lido_syntax.specs.declared.spec.Target.TheVariants as target
use Rattle.lido_syntax.specs.Assignment.{Assignment, Attribute}
use Rattle.trials_of_syntax.specs.Writing.{Row, int, call, read, named, pair, attr, comp, constituents, as_a_sum, plain_rule, symbol_item, declaration, root, node, assigned, DIV, PTGNumb}

abbrev pub Top : ℕ
Top = 20

abbrev pub Left : ℕ
Left = 21

abbrev pub Right : ℕ
Right = 22

abbrev pub Five : ℕ
Five = 23

abbrev pub i : ℕ
i = 30

abbrev pub five : Comp
five = comp 0 (attr place.Inh i) (int 5)

abbrev pub three : Comp
three = comp 1 (attr (named Left) i) (int 3)

-- a class is the source and the shield
abbrev pub fives : Cons
fives = constituents 3 Five i (Five ∷ []) as_a_sum

abbrev pub out : Comp
out = comp 2 target.Out (call PTGNumb (call DIV (expr.Constituents fives ∷ int 0 ∷ []) ∷ []))

abbrev pub quotient : Comp
quotient = comp 4 (attr (named Left) i) (call DIV (read (named Right) i ∷ int 0 ∷ []))

abbrev pub class_five : SymbolItem
class_five = symbol_item true Five [] (five ∷ [])

abbrev pub right_symbol : SymbolItem
right_symbol = symbol_item false Right (Five ∷ []) []

abbrev pub top_rule : RuleItem
top_rule = plain_rule Top (Left ∷ Right ∷ []) (three ∷ out ∷ [])

abbrev pub left_rule : RuleItem
left_rule = plain_rule Left [] []

abbrev pub right_rule : RuleItem
right_rule = plain_rule Right (Left ∷ []) (quotient ∷ [])

abbrev pub spec : Spec
spec = record { rules = top_rule ∷ left_rule ∷ right_rule ∷ []; symbols = class_five ∷ right_symbol ∷ []; attrs = declaration i type.Int ∷ []; terms = []; chains = [] }

-- INCLUDING Five.i
abbrev pub pairs : List Pair
pairs = pair Five i ∷ []

-- (rTop (rLeft) (rRight (rLeft)))
abbrev pub tree : Tree Plain
tree = root 0 (Child 1 ∷ Child 2 ∷ []) ∷ node 1 0 1 [] ∷ node 2 0 2 (Child 3 ∷ []) ∷ node 1 2 1 [] ∷ []

-- a division by zero at this node, in the computation of this number
abbrev pub zero_divisor : ℕ → ℕ → Origin
zero_divisor at number = record { node = at; comp = number; kind = DivideByZero }

abbrev pub rows : List Row
rows = (1, Attribute i, Int (pos 3)) ∷ (2, Attribute i, Int (pos 5)) ∷ (3, Attribute i, Bad (zero_divisor 2 4)) ∷ []

-- what is handed down: of a rule's computation the fault lies at the node of the rule
abbrev pub handed : Assignment
handed = assigned rows

-- the same, but for the first node, which has what its sibling has
abbrev pub of_the_sibling : Assignment
of_the_sibling = assigned ((1, Attribute i, Int (pos 5)) ∷ (2, Attribute i, Int (pos 5)) ∷ (3, Attribute i, Bad (zero_divisor 2 4)) ∷ [])

-- the same, but for the last node, where the fault lies at the node that has the attribute
abbrev pub of_the_child : Assignment
of_the_child = assigned ((1, Attribute i, Int (pos 3)) ∷ (2, Attribute i, Int (pos 5)) ∷ (3, Attribute i, Bad (zero_divisor 3 4)) ∷ [])
