-- How the specifications of the trials are written: names, expressions, rules and trees. All places are 0, and a name is a
-- number: those below 20 are texts of functions, from 20 on stand symbols, from 30 on attributes and chains.
use Rattle.std.specs.Prelude.{ℕ, pos, Bool, true, false, ◌&&◌, List, [], ◌∷◌, ◌++◌, map, Option, Some, None, option_map, find, nat_eq, codes}
use Rattle.lido_base.specs.declared.value.ValueType.{ValueType}
use Rattle.lido_base.specs.declared.value.ValueType.TheVariants as type
use Rattle.lido_base.specs.Plain.{Plain}
use Rattle.lido_base.specs.Tree.{Node, Item}
use Rattle.lido_syntax.specs.Assignment.{Assignment, Slot, Attribute, Front, Behind}
use Rattle.lido_base.specs.Environment.{Environment}
use Rattle.lido_syntax.specs.declared.spec.Spec.{Spec}
use Rattle.lido_syntax.specs.declared.spec.Name.{Name}
use Rattle.lido_syntax.specs.declared.spec.Comp.{Comp}
use Rattle.lido_syntax.specs.declared.spec.Cons.{Cons}
use Rattle.lido_syntax.specs.declared.spec.Decl.{Decl}
use Rattle.lido_syntax.specs.declared.spec.Typed1.{Typed1}
use Rattle.lido_syntax.specs.declared.spec.Pair.{Pair}
use Rattle.lido_syntax.specs.declared.spec.With.{With}
use Rattle.lido_syntax.specs.declared.spec.RuleItem.{RuleItem}
use Rattle.lido_syntax.specs.declared.spec.Severity.{Severity}
use Rattle.lido_syntax.specs.declared.spec.SymbolItem.{SymbolItem}
use Rattle.lido_syntax.specs.declared.spec.Target.{Target}
use Rattle.lido_syntax.specs.declared.spec.Target.TheVariants as target
use Rattle.lido_syntax.specs.declared.spec.Element.TheVariants.{Symbol}
use Rattle.lido_syntax.specs.declared.spec.Expr.{Expr}
use Rattle.lido_syntax.specs.declared.spec.Expr.TheVariants as expr
use Rattle.lido_syntax.specs.declared.spec.Place.{Place}
use Rattle.lido_syntax.specs.declared.spec.Place.TheVariants as place

abbrev pub ADD : ℕ
ADD = 0

abbrev pub SUB : ℕ
SUB = 1

abbrev pub DIV : ℕ
DIV = 2

abbrev pub MOD : ℕ
MOD = 3

abbrev pub NEG : ℕ
NEG = 4

abbrev pub IF : ℕ
IF = 5

abbrev pub IDENTICAL : ℕ
IDENTICAL = 6

abbrev pub ZERO : ℕ
ZERO = 7

abbrev pub PTGNumb : ℕ
PTGNumb = 8

abbrev pub PTGSeq : ℕ
PTGSeq = 9

abbrev pub PTGNull : ℕ
PTGNull = 10

abbrev pub function_texts : List (List ℕ)
function_texts =
    codes "ADD" ∷ codes "SUB" ∷ codes "DIV" ∷ codes "MOD" ∷ codes "NEG" ∷ codes "IF" ∷ codes "IDENTICAL" ∷ codes "ZERO"
    ∷ codes "PTGNumb" ∷ codes "PTGSeq" ∷ codes "PTGNull" ∷ []

-- the functions alone, without patterns
abbrev pub env : Environment
env = record { texts = function_texts; patterns = [] }

-- the words of coordinates, an operator, and texts of messages
abbrev pub LINE : ℕ
LINE = 11

abbrev pub COL : ℕ
COL = 12

abbrev pub EQ : ℕ
EQ = 13

abbrev pub top_text : ℕ
top_text = 14

abbrev pub one_text : ℕ
one_text = 15

-- the functions, and these
abbrev pub env_of_messages : Environment
env_of_messages = record { texts = function_texts ++ codes "LINE" ∷ codes "COL" ∷ codes "EQ" ∷ codes "top" ∷ codes "one" ∷ []; patterns = [] }

abbrev pub name : ℕ → Name
name s = record { at = 0; id = record { 0 = s } }

abbrev pub int : ℕ → Expr
int n = expr.Int 0 (pos n)

abbrev pub str : ℕ → Expr
str s = expr.Str 0 (record { 0 = s })

abbrev pub call : ℕ → List Expr → Expr
call f args = expr.Call (name f) args

-- the value of the terminal
abbrev pub terminal : ℕ → Expr
terminal x = expr.Terminal (name x) None

-- x.a
abbrev pub named : ℕ → Place
named x = place.Named (name x) None

abbrev pub read : Place → ℕ → Expr
read p a = expr.Read 0 p (name a)

abbrev pub pair : ℕ → ℕ → Pair
pair x a = record { sym = name x; attr = name a }

-- CONSTITUENTS x.a SHIELD (..) WITH (type, comb, single, null)
abbrev pub constituents : ℕ → ℕ → ℕ → List ℕ → With → Cons
constituents number x a shield with = record { at = 0; number = number; pairs = pair x a ∷ []; shield = map name shield; with = Some with }

-- WITH (int, ADD, IDENTICAL, ZERO)
abbrev pub as_a_sum : With
as_a_sum = record { ty = type.Int; comb = name ADD; single = name IDENTICAL; null = name ZERO }

-- WITH (PTGNode, PTGSeq, IDENTICAL, PTGNull)
abbrev pub in_a_row : With
in_a_row = record { ty = type.Text; comb = name PTGSeq; single = name IDENTICAL; null = name PTGNull }

-- target = value
abbrev pub comp : ℕ → Target → Expr → Comp
comp number target value = record { at = 0; number = number; target = target; value = value; after = [] }

-- message(severity, text, 0, COORDREF), and with a condition IF(condition, ..)
abbrev pub message : ℕ → Severity → Option Expr → Expr → Comp
message number severity condition text = comp number (target.Message severity condition) text

abbrev pub attr : Place → ℕ → Target
attr p a = target.Attr p (name a)

abbrev pub rule : ℕ → Bool → List ℕ → List Comp → RuleItem
rule left list right body = record { at = 0; name = record { 0 = 0 }; left = name left; list = list; right = map (λ s. Symbol (name s)) right; body = body }

-- left ::= right
abbrev pub plain_rule : ℕ → List ℕ → List Comp → RuleItem
plain_rule left right body = rule left false right body

-- left LISTOF right
abbrev pub list_rule : ℕ → List ℕ → List Comp → RuleItem
list_rule left right body = rule left true right body

-- SYMBOL or CLASS SYMBOL s INHERITS ..
abbrev pub symbol_item : Bool → ℕ → List ℕ → List Comp → SymbolItem
symbol_item class s inherits body = record { at = 0; class = class; names = name s ∷ []; inherits = map name inherits; decls = []; body = body }

-- ATTR a: ty
abbrev pub declaration : ℕ → ValueType → Decl
declaration a ty = record { attr = name a; ty = ty; kind = None }

abbrev pub typed : ℕ → ValueType → Typed1
typed x ty = record { name = name x; ty = ty }

-- a specification without SYMBOL items
abbrev pub of_rules : List RuleItem → List Decl → List Typed1 → List Typed1 → Spec
of_rules rules attrs terms chains = record { rules = rules; symbols = []; attrs = attrs; terms = terms; chains = chains }

-- the root of a tree, and another node: its rule, its parent and place, its items
abbrev pub root : ℕ → List (Item Plain) → Node Plain
root r items = record { rule = r; parent = None; place = 0; line = 0; column = 0; items = items }

abbrev pub node : ℕ → ℕ → ℕ → List (Item Plain) → Node Plain
node r parent place items = record { rule = r; parent = Some parent; place = place; line = 0; column = 0; items = items }

-- the node with this line and column
abbrev pub placed : ℕ → ℕ → Node Plain → Node Plain
placed line column n = record n { line = line; column = column }

abbrev pub is_slot : Slot → Slot → Bool
is_slot (Attribute a) (Attribute b) = nat_eq a b
is_slot (Front c) (Front d) = nat_eq c d
is_slot (Behind c) (Behind d) = nat_eq c d
is_slot _ _ = false

-- the assignment with these values: the rows of a table, each a node, what of it, and the value
abbrev pub Row : Type 0
Row = ℕ × Slot × Plain

abbrev pub assigned : List Row → Assignment
assigned rows n slot = option_map (λ (row : Row). row.2) (find (λ (row : Row). nat_eq row.0 n && is_slot row.1 slot) rows)
