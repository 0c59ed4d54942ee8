-- The flat grammar of expressions: sums, numbers, and two kinds of lists, of which one has items too:
--
--   RULE rTop: Top ::= Expr END;
--   RULE rAdd: Expr ::= Expr '+' Expr END;
--   RULE rNum: Expr ::= Num END;
--   RULE rSum: Expr LISTOF Expr END;
--   RULE rBlock: Expr LISTOF Expr | Item END;
--   RULE rP: Item ::= Num Word END;
--   RULE rRich: Item ::= 'rich' END;
--   RULE rR: Item ::= 'round' Item END;
--
-- Top and Expr have one attribute each, Item and the cell of rBlock two, the cell of rSum none. So an Item in a block brings four
-- instances, a block without elements five where it stands in a block: its own, those of its end cell and those of the cell it
-- stands in, and a sum one. A rich Item has 32 text cells, nothing else any.
use Rattle.std.specs.Prelude.{ℕ, List, [], ◌∷◌, Option, Some, None, true, false}
use Rattle.lido_base.specs.declared.kinds.Kind.TheVariants.{Synthesized}
use Rattle.lido_base.specs.declared.value.Value.TheVariants as value
use Rattle.lido_base.specs.declared.value.ValueType.{ValueType}
use Rattle.lido_base.specs.declared.value.ValueType.TheVariants as type
use Rattle.lido_base.specs.declared.ids.SymId.{SymId}
use Rattle.lido_base.specs.declared.operation.Op.TheVariants as op
use Rattle.flat_grammar.specs.declared.flat.FlatSymbol.{FlatSymbol}
use Rattle.flat_grammar.specs.declared.flat.FlatAttr.{FlatAttr}
use Rattle.flat_grammar.specs.declared.flat.FlatRule.{FlatRule}
use Rattle.flat_grammar.specs.declared.flat.FlatComp.{FlatComp}
use Rattle.flat_grammar.specs.declared.flat.FlatExpr.{FlatExpr, Value}
use Rattle.flat_grammar.specs.declared.flat.Shape.{Shape}
use Rattle.trials_of_grammar.specs.ListOfItems.{symbol, occurrence, call1}

-- a synthesized attribute
abbrev pub attribute : ℕ → FlatAttr
attribute name = record { name = record { 0 = name }; kind = Synthesized; ty = type.Text; written = true; message = false }

-- a nonterminal or a terminal
abbrev pub named : ℕ → Option ValueType → List FlatAttr → FlatSymbol
named name terminal attrs = record { name = record { 0 = name }; terminal = terminal; attrs = attrs }

-- the two attributes of Item and of the cell of rBlock
abbrev pub both : List FlatAttr
both = attribute 9 ∷ attribute 10 ∷ []

-- Top, Expr, Num, Item, Word and the cells of rSum and rBlock
abbrev pub symbols : List FlatSymbol
symbols =
    named 0 None (attribute 7 ∷ [])
    ∷ named 1 None (attribute 8 ∷ [])
    ∷ named 2 (Some type.Int) []
    ∷ named 3 None both
    ∷ named 4 (Some type.Str) []
    ∷ named 5 None []
    ∷ named 6 None both
    ∷ []

-- nothing
abbrev pub nothing : FlatExpr
nothing = Value value.Void

-- the call of PTGNumb, which has two text cells
abbrev pub numb : FlatExpr → FlatExpr
numb e = call1 0 op.Numb e

-- twice the call
abbrev pub twice : FlatExpr → FlatExpr
twice e = numb (numb e)

-- eight calls within one another: 16 text cells
abbrev pub eight_times : FlatExpr → FlatExpr
eight_times e = twice (twice (twice (twice e)))

-- the left side's attribute of this number has this value
abbrev pub gives : ℕ → FlatExpr → FlatComp
gives a e = record { goal = occurrence 0 a; origin = 0; value = e; after = [] }

abbrev pub named_rule : ℕ → ℕ → List SymId → List FlatComp → FlatRule
named_rule name left right comps = record { name = record { 0 = name }; left = symbol left; right = right; comps = comps }

-- a rule whose left side's one attribute is nothing
abbrev pub rule_of_one : ℕ → ℕ → List SymId → FlatRule
rule_of_one name left right = named_rule name left right (gives 0 nothing ∷ [])

-- a rule whose left side's two attributes are nothing
abbrev pub rule_of_both : ℕ → ℕ → List SymId → FlatRule
rule_of_both name left right = named_rule name left right (gives 0 nothing ∷ gives 1 nothing ∷ [])

abbrev pub top_rule : FlatRule
top_rule = rule_of_one 11 0 (symbol 1 ∷ [])

abbrev pub add_rule : FlatRule
add_rule = rule_of_one 12 1 (symbol 1 ∷ symbol 1 ∷ [])

abbrev pub num_rule : FlatRule
num_rule = rule_of_one 13 1 (symbol 2 ∷ [])

abbrev pub sum_rule : FlatRule
sum_rule = rule_of_one 14 1 (symbol 5 ∷ [])

abbrev pub block_rule : FlatRule
block_rule = rule_of_one 15 1 (symbol 6 ∷ [])

abbrev pub pair_rule : FlatRule
pair_rule = rule_of_both 16 3 (symbol 2 ∷ symbol 4 ∷ [])

abbrev pub rich_rule : FlatRule
rich_rule = named_rule 17 3 [] (gives 0 (eight_times nothing) ∷ gives 1 (eight_times nothing) ∷ [])

abbrev pub round_rule : FlatRule
round_rule = rule_of_both 18 3 (symbol 3 ∷ [])

-- the rules of the cells: an element and the next cell, or the end
abbrev pub sum_cell : FlatRule
sum_cell = named_rule 19 5 (symbol 1 ∷ symbol 5 ∷ []) []

abbrev pub sum_end : FlatRule
sum_end = named_rule 20 5 [] []

abbrev pub expr_cell : FlatRule
expr_cell = rule_of_both 21 6 (symbol 1 ∷ symbol 6 ∷ [])

abbrev pub item_cell : FlatRule
item_cell = rule_of_both 22 6 (symbol 3 ∷ symbol 6 ∷ [])

abbrev pub block_end : FlatRule
block_end = rule_of_both 23 6 []

abbrev pub rules : List FlatRule
rules =
    top_rule ∷ add_rule ∷ num_rule ∷ sum_rule ∷ block_rule ∷ pair_rule ∷ rich_rule ∷ round_rule
    ∷ sum_cell ∷ sum_end ∷ expr_cell ∷ item_cell ∷ block_end ∷ []

abbrev pub shape : ℕ → List SymId → Shape
shape rule right = record { rule = record { 0 = rule }; list = false; right = right }

abbrev pub list_shape : ℕ → List SymId → Shape
list_shape rule right = record { rule = record { 0 = rule }; list = true; right = right }

abbrev pub sum_shape : Shape
sum_shape = list_shape 3 (symbol 1 ∷ [])

abbrev pub block_shape : Shape
block_shape = list_shape 4 (symbol 1 ∷ symbol 3 ∷ [])

abbrev pub shapes : List Shape
shapes =
    shape 0 (symbol 1 ∷ [])
    ∷ shape 1 (symbol 1 ∷ symbol 1 ∷ [])
    ∷ shape 2 (symbol 2 ∷ [])
    ∷ sum_shape
    ∷ block_shape
    ∷ shape 5 (symbol 2 ∷ symbol 4 ∷ [])
    ∷ shape 6 []
    ∷ shape 7 (symbol 3 ∷ [])
    ∷ []
