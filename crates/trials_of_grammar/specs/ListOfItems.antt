-- The flat grammar of a text whose root is a list, and a tree with two items. The list's sum is gathered along its cells:
--
--   RULE rTop: Top LISTOF Item COMPUTE PTGOut(PTGNumb(CONSTITUENTS Item.n WITH (int, ADD, IDENTICAL, ZERO))); END;
--   RULE rItem: Item ::= Num COMPUTE Item.n = Num; END;
--
--   (rTop (rItem 5) (rItem 6))
use Rattle.std.specs.Prelude.{ℕ, List, [], ◌∷◌, Some, None, true, false}
use Rattle.lido_base.specs.declared.ids.SymId.{SymId}
use Rattle.lido_base.specs.declared.kinds.Kind.TheVariants.{Synthesized}
use Rattle.lido_base.specs.declared.value.ValueType.TheVariants as type
use Rattle.lido_base.specs.declared.operation.Op.{Op}
use Rattle.lido_base.specs.declared.operation.Op.TheVariants as op
use Rattle.flat_grammar.specs.declared.flat.Occ.{Occ}
use Rattle.flat_grammar.specs.declared.flat.FlatSymbol.{FlatSymbol}
use Rattle.flat_grammar.specs.declared.flat.FlatAttr.{FlatAttr}
use Rattle.flat_grammar.specs.declared.flat.FlatRule.{FlatRule}
use Rattle.flat_grammar.specs.declared.flat.FlatComp.{FlatComp}
use Rattle.flat_grammar.specs.declared.flat.FlatExpr.{FlatExpr, Terminal, Read, Apply', end_of-FlatExpr, more_of-FlatExpr}
use Rattle.flat_grammar.specs.declared.flat.Shape.{Shape}

abbrev pub symbol : ℕ → SymId
symbol s = record { 0 = s }

abbrev pub occurrence : ℕ → ℕ → Occ
occurrence k a = record { occ = k; attr = record { 0 = a } }

-- calls of operations with no, one and two arguments, in the form in which a computation can look into them
abbrev pub call0 : ℕ → Op → FlatExpr
call0 comp op = Apply' comp op [] end_of-FlatExpr

abbrev pub call1 : ℕ → Op → FlatExpr → FlatExpr
call1 comp op e = Apply' comp op (tt ∷ []) (more_of-FlatExpr e end_of-FlatExpr)

abbrev pub call2 : ℕ → Op → FlatExpr → FlatExpr → FlatExpr
call2 comp op e f = Apply' comp op (tt ∷ tt ∷ []) (more_of-FlatExpr e (more_of-FlatExpr f end_of-FlatExpr))

-- Top with $out, Item with n and $con1, the terminal Num, and the list's cell with $con1
abbrev pub out_attribute : FlatAttr
out_attribute = record { name = record { 0 = 20 }; kind = Synthesized; ty = type.Text; written = true; message = false }

abbrev pub n_attribute : FlatAttr
n_attribute = record { name = record { 0 = 21 }; kind = Synthesized; ty = type.Int; written = true; message = false }

abbrev pub con_attribute : FlatAttr
con_attribute = record { name = record { 0 = 22 }; kind = Synthesized; ty = type.Int; written = false; message = false }

abbrev pub symbols : List FlatSymbol
symbols =
    record { name = record { 0 = 0 }; terminal = None; attrs = out_attribute ∷ [] }
    ∷ record { name = record { 0 = 1 }; terminal = None; attrs = n_attribute ∷ con_attribute ∷ [] }
    ∷ record { name = record { 0 = 2 }; terminal = Some type.Int; attrs = [] }
    ∷ record { name = record { 0 = 3 }; terminal = None; attrs = con_attribute ∷ [] }
    ∷ []

-- Top.$out = PTGNumb($rTop.$con1)
abbrev pub out_of_list : FlatComp
out_of_list = record { goal = occurrence 0 0; origin = 0; value = call1 0 op.Numb (Read (occurrence 1 0)); after = [] }

-- Item.n = Num
abbrev pub n_of_item : FlatComp
n_of_item = record { goal = occurrence 0 0; origin = 0; value = Terminal 1; after = [] }

-- Item.$con1 = ADD(IDENTICAL(Item.n), ZERO())
abbrev pub con_of_item : FlatComp
con_of_item = record { goal = occurrence 0 1; origin = 0; value = call2 1 op.Add (call1 1 op.Identical (Read (occurrence 0 0))) (call0 1 op.Zero); after = [] }

-- $rTop.$con1 = ADD(Item.$con1, $rTop.$con1) and, at the end, ZERO()
abbrev pub con_of_cell : FlatComp
con_of_cell = record { goal = occurrence 0 0; origin = 0; value = call2 1 op.Add (Read (occurrence 1 1)) (Read (occurrence 2 0)); after = [] }

abbrev pub con_of_end : FlatComp
con_of_end = record { goal = occurrence 0 0; origin = 0; value = call0 1 op.Zero; after = [] }

abbrev pub list_rule : FlatRule
list_rule = record { name = record { 0 = 10 }; left = symbol 0; right = symbol 3 ∷ []; comps = out_of_list ∷ [] }

abbrev pub item_rule : FlatRule
item_rule = record { name = record { 0 = 11 }; left = symbol 1; right = symbol 2 ∷ []; comps = n_of_item ∷ con_of_item ∷ [] }

abbrev pub cell_rule : FlatRule
cell_rule = record { name = record { 0 = 12 }; left = symbol 3; right = symbol 1 ∷ symbol 3 ∷ []; comps = con_of_cell ∷ [] }

abbrev pub end_rule : FlatRule
end_rule = record { name = record { 0 = 13 }; left = symbol 3; right = []; comps = con_of_end ∷ [] }

abbrev pub rules : List FlatRule
rules = list_rule ∷ item_rule ∷ cell_rule ∷ end_rule ∷ []

abbrev pub list_shape : Shape
list_shape = record { rule = record { 0 = 0 }; list = true; right = symbol 1 ∷ [] }

abbrev pub item_shape : Shape
item_shape = record { rule = record { 0 = 1 }; list = false; right = symbol 2 ∷ [] }

abbrev pub shapes : List Shape
shapes = list_shape ∷ item_shape ∷ []

abbrev pub root : SymId
root = symbol 0

-- rules in which something is wrong: Item.$con1 isn't computed; Item.n is computed twice; Top ::= $rTop $rTop
abbrev pub goal_missing : List FlatRule
goal_missing = list_rule ∷ record item_rule { comps = n_of_item ∷ [] } ∷ cell_rule ∷ end_rule ∷ []

abbrev pub goal_twice : List FlatRule
goal_twice = list_rule ∷ record item_rule { comps = n_of_item ∷ con_of_item ∷ n_of_item ∷ [] } ∷ cell_rule ∷ end_rule ∷ []

abbrev pub cell_used_elsewhere : List FlatRule
cell_used_elsewhere = list_rule ∷ record item_rule { right = symbol 2 ∷ symbol 3 ∷ [] } ∷ cell_rule ∷ end_rule ∷ []

abbrev pub item_with_cell : Shape
item_with_cell = record item_shape { right = symbol 2 ∷ symbol 3 ∷ [] }
