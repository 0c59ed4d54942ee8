-- A list whose items inherit a number and give a sum, along its cells, with the job that is split at the second cell:
--
--   RULE rTop: Top LISTOF Item COMPUTE the cells' i is 1; PTGOut(PTGNumb(the cells' s)); END;
--   RULE rItem: Item ::= Num COMPUTE Item.s = ADD(Item.i, Num); END;
--
--   visit Top 1: out $out      visit Item 1, visit $rTop 1: in i out s
--
--   (rTop (rItem 5) (rItem 6)), with $out 13
use Rattle.std.specs.Prelude.{ℕ, pos, List, [], ◌∷◌, Option, Some, None, true, false}
use Rattle.lido_base.specs.declared.ids.AttrId.{AttrId}
use Rattle.lido_base.specs.declared.kinds.Kind.TheVariants.{Synthesized, Inherited}
use Rattle.lido_base.specs.declared.value.Value.{Value}
use Rattle.lido_base.specs.declared.value.Value.TheVariants as value
use Rattle.lido_base.specs.declared.value.ValueType.TheVariants as type
use Rattle.lido_base.specs.declared.operation.Op.TheVariants as op
use Rattle.lido_base.specs.Tree.{Tree, Node, Item, Child, Leaf}
use Rattle.flat_grammar.specs.declared.flat.Occ.{Occ}
use Rattle.flat_grammar.specs.declared.flat.FlatSymbol.{FlatSymbol}
use Rattle.flat_grammar.specs.declared.flat.FlatAttr.{FlatAttr}
use Rattle.flat_grammar.specs.declared.flat.FlatRule.{FlatRule}
use Rattle.flat_grammar.specs.declared.flat.FlatComp.{FlatComp}
use Rattle.flat_grammar.specs.declared.flat.FlatExpr.{FlatExpr, Value as Constant, Terminal, Read}
use Rattle.flat_grammar.specs.declared.flat.Shape.{Shape}
use Rattle.flat_grammar.specs.declared.plan.PlanItem.{PlanItem}
use Rattle.flat_grammar.specs.declared.plan.PlanItem.TheVariants.{Eval, Visit, Leave}
use Rattle.flat_grammar.specs.declared.plan.VisitClass.{VisitClass}
use Rattle.trials_of_grammar.specs.ListOfItems.{symbol, occurrence, call1, call2}
use Rattle.lido_base.specs.declared.pattern.Piece.TheVariants as piece
use Rattle.string_librarian.specs.Rooms.{Deposit}
use Rattle.flat_grammar.specs.WholeOrder.{Instance}
use Rattle.core_machine.specs.Machine.{Item as Step, eval_of, put_of}
use Rattle.core_machine.specs.declared.finished.Note.{Note}
use Rattle.core_machine.specs.Core.{Task}

abbrev pub attribute : ℕ → AttrId
attribute a = record { 0 = a }

abbrev pub out_attribute : FlatAttr
out_attribute = record { name = record { 0 = 20 }; kind = Synthesized; ty = type.Text; written = true; message = false }

abbrev pub i_attribute : FlatAttr
i_attribute = record { name = record { 0 = 21 }; kind = Inherited; ty = type.Int; written = true; message = false }

abbrev pub s_attribute : FlatAttr
s_attribute = record { name = record { 0 = 22 }; kind = Synthesized; ty = type.Int; written = true; message = false }

-- Top with $out, Item with i and s, the terminal Num, the list's cell with i and s
abbrev pub Top_symbol : FlatSymbol
Top_symbol = record { name = record { 0 = 0 }; terminal = None; attrs = out_attribute ∷ [] }

abbrev pub Item_symbol : FlatSymbol
Item_symbol = record { name = record { 0 = 1 }; terminal = None; attrs = i_attribute ∷ s_attribute ∷ [] }

abbrev pub Num_symbol : FlatSymbol
Num_symbol = record { name = record { 0 = 2 }; terminal = Some type.Int; attrs = [] }

abbrev pub cell_symbol : FlatSymbol
cell_symbol = record { name = record { 0 = 3 }; terminal = None; attrs = i_attribute ∷ s_attribute ∷ [] }

abbrev pub symbols : List FlatSymbol
symbols = Top_symbol ∷ Item_symbol ∷ Num_symbol ∷ cell_symbol ∷ []

abbrev pub gives : Occ → FlatExpr → FlatComp
gives goal value = record { goal = goal; origin = 0; value = value; after = [] }

abbrev pub i_of_first : FlatComp
i_of_first = gives (occurrence 1 0) (Constant (value.Int (pos 1)))

abbrev pub out_of_list : FlatComp
out_of_list = gives (occurrence 0 0) (call1 0 op.Numb (Read (occurrence 1 1)))

abbrev pub s_of_item : FlatComp
s_of_item = gives (occurrence 0 1) (call2 1 op.Add (Read (occurrence 0 0)) (Terminal 1))

abbrev pub i_of_element : FlatComp
i_of_element = gives (occurrence 1 0) (Read (occurrence 0 0))

abbrev pub i_of_next : FlatComp
i_of_next = gives (occurrence 2 0) (Read (occurrence 0 0))

abbrev pub s_of_cell : FlatComp
s_of_cell = gives (occurrence 0 1) (call2 2 op.Add (Read (occurrence 1 1)) (Read (occurrence 2 1)))

abbrev pub s_of_end : FlatComp
s_of_end = gives (occurrence 0 1) (Constant (value.Int (pos 0)))

abbrev pub list_rule : FlatRule
list_rule = record { name = record { 0 = 10 }; left = symbol 0; right = symbol 3 ∷ []; comps = i_of_first ∷ out_of_list ∷ [] }

abbrev pub item_rule : FlatRule
item_rule = record { name = record { 0 = 11 }; left = symbol 1; right = symbol 2 ∷ []; comps = s_of_item ∷ [] }

abbrev pub cell_rule : FlatRule
cell_rule = record { name = record { 0 = 12 }; left = symbol 3; right = symbol 1 ∷ symbol 3 ∷ []; comps = i_of_element ∷ i_of_next ∷ s_of_cell ∷ [] }

abbrev pub end_rule : FlatRule
end_rule = record { name = record { 0 = 13 }; left = symbol 3; right = []; comps = s_of_end ∷ [] }

abbrev pub rules : List FlatRule
rules = list_rule ∷ item_rule ∷ cell_rule ∷ end_rule ∷ []

abbrev pub list_shape : Shape
list_shape = record { rule = record { 0 = 0 }; list = true; right = symbol 1 ∷ [] }

abbrev pub item_shape : Shape
item_shape = record { rule = record { 0 = 1 }; list = false; right = symbol 2 ∷ [] }

abbrev pub shapes : List Shape
shapes = list_shape ∷ item_shape ∷ []

abbrev pub visits_of_Top : List VisitClass
visits_of_Top = record { inherited = []; synthesized = attribute 0 ∷ [] } ∷ []

abbrev pub i_then_s : List VisitClass
i_then_s = record { inherited = attribute 0 ∷ []; synthesized = attribute 1 ∷ [] } ∷ []

abbrev pub visits : List (List VisitClass)
visits = visits_of_Top ∷ i_then_s ∷ [] ∷ i_then_s ∷ []

abbrev pub list_sequence : List PlanItem
list_sequence = Eval (occurrence 1 0) ∷ Visit 1 1 ∷ Eval (occurrence 0 0) ∷ Leave 1 ∷ []

abbrev pub s_sequence : List PlanItem
s_sequence = Eval (occurrence 0 1) ∷ Leave 1 ∷ []

abbrev pub cell_sequence : List PlanItem
cell_sequence = Eval (occurrence 1 0) ∷ Visit 1 1 ∷ Eval (occurrence 2 0) ∷ Visit 2 1 ∷ Eval (occurrence 0 1) ∷ Leave 1 ∷ []

abbrev pub sequences : List (List PlanItem)
sequences = list_sequence ∷ s_sequence ∷ cell_sequence ∷ s_sequence ∷ []

abbrev pub node : ℕ → Option ℕ → ℕ → List (Item Value) → Node Value
node rule parent place items = record { rule = rule; parent = parent; place = place; line = 1; column = 1; items = items }

abbrev pub number : ℕ → Item Value
number n = Leaf (value.Int (pos n))

abbrev pub written : Tree Value
written =
    node 0 None 0 (Child 1 ∷ Child 2 ∷ [])
    ∷ node 1 (Some 0) 1 (number 5 ∷ [])
    ∷ node 1 (Some 0) 2 (number 6 ∷ [])
    ∷ []

abbrev pub flat : Tree Value
flat =
    node 0 None 0 (Child 1 ∷ [])
    ∷ node 2 (Some 0) 1 (Child 2 ∷ Child 3 ∷ [])
    ∷ node 1 (Some 1) 1 (number 5 ∷ [])
    ∷ node 2 (Some 1) 2 (Child 4 ∷ Child 5 ∷ [])
    ∷ node 1 (Some 3) 1 (number 6 ∷ [])
    ∷ node 3 (Some 3) 2 []
    ∷ []

abbrev pub node_of : List ℕ
node_of = 0 ∷ 0 ∷ 1 ∷ 0 ∷ 2 ∷ 0 ∷ []

-- split at the second cell
abbrev pub job : Task
job = record {
  symbols = symbols;
  rules = rules;
  shapes = shapes;
  root = symbol 0;
  visits = visits;
  seqs = sequences;
  written = written;
  flat = flat;
  node_of = node_of;
  nodes = 3 ∷ [];
  texts = [];
  patterns = [];
}

-- the cell's region waits for its number, and the root's for its sum
abbrev pub all_items : List (Step Instance)
all_items =
    eval_of (1, 0)
    ∷ eval_of (2, 0)
    ∷ eval_of (2, 1)
    ∷ eval_of (3, 0)
    ∷ put_of (3, 0)
    ∷ eval_of (4, 0)
    ∷ eval_of (4, 1)
    ∷ eval_of (5, 0)
    ∷ eval_of (5, 1)
    ∷ eval_of (3, 1)
    ∷ put_of (3, 1)
    ∷ eval_of (1, 1)
    ∷ eval_of (0, 0)
    ∷ []

abbrev pub items_of_the_root : List (Step Instance)
items_of_the_root = eval_of (1, 0) ∷ eval_of (2, 0) ∷ eval_of (2, 1) ∷ eval_of (3, 0) ∷ put_of (3, 0) ∷ eval_of (1, 1) ∷ eval_of (0, 0) ∷ []

abbrev pub items_of_the_cell : List (Step Instance)
items_of_the_cell = eval_of (4, 0) ∷ eval_of (4, 1) ∷ eval_of (5, 0) ∷ eval_of (5, 1) ∷ eval_of (3, 1) ∷ put_of (3, 1) ∷ []

-- the text `13`
abbrev pub the_output : Value
the_output = value.Text (record { room = 0; node = 1; len = 2 })

abbrev pub the_deposit : Deposit
the_deposit = record { piece = piece.Numb; args = value.Int (pos 13) ∷ []; len = 2 }

-- the same job with the output marked as a message
abbrev pub noted_symbols : List FlatSymbol
noted_symbols = record Top_symbol { attrs = record out_attribute { message = true } ∷ [] } ∷ Item_symbol ∷ Num_symbol ∷ cell_symbol ∷ []

abbrev pub noted_job : Task
noted_job = record job { symbols = noted_symbols }

abbrev pub the_note : Note
the_note = record { node = 0; text = record { room = 0; node = 1; len = 2 } }
