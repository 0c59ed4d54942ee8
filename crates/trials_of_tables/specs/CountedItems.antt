-- A specification with a class, a chain, a list, an INCLUDING, a CONSTITUENTS and a message. Places are those of this text, in which
-- each line begins behind the two dashes and three spaces.
--
--   ATTR b, t: int;
--   CHAIN no: int;
--   TERM Num: int;
--   CLASS SYMBOL Counted COMPUTE SYNT.t = INCLUDING Top.b; END;
--   SYMBOL Item INHERITS Counted END;
--   RULE rTop: Top LISTOF Item COMPUTE
--     Top.b = 1;
--     CHAINSTART HEAD.no = 2;
--     PTGOut(PTGNumb(CONSTITUENTS Item.t SHIELD Item WITH (int, ADD, IDENTICAL, ZERO)));
--   END;
--   RULE rItem: Item ::= Num COMPUTE
--     Item.no = Item.no + Num;
--     message(WARNING, "counted", 0, COORDREF);
--   END;
use Rattle.std.specs.Prelude.{ℕ, zero, suc, pos, Bool, true, false, List, [], ◌∷◌, Some, None, codes}
use Rattle.lido_base.specs.declared.value.ValueType.TheVariants as type
use Rattle.lido_base.specs.Environment.{Environment}
use Rattle.lido_syntax.specs.declared.spec.Spec.{Spec}
use Rattle.lido_syntax.specs.declared.spec.Pair.{Pair}
use Rattle.lido_syntax.specs.declared.spec.Cons.{Cons}
use Rattle.lido_syntax.specs.declared.spec.With.{With}
use Rattle.lido_syntax.specs.declared.spec.Comp.{Comp}
use Rattle.lido_syntax.specs.declared.spec.RuleItem.{RuleItem}
use Rattle.lido_syntax.specs.declared.spec.SymbolItem.{SymbolItem}
use Rattle.lido_syntax.specs.declared.spec.Severity.TheVariants as severity
use Rattle.lido_syntax.specs.declared.spec.Element.TheVariants.{Symbol}
use Rattle.lido_syntax.specs.declared.spec.Target.TheVariants as target
use Rattle.lido_syntax.specs.declared.spec.Place.TheVariants as place
use Rattle.lido_syntax.specs.declared.spec.Expr.{Int, Str, Terminal, Read, Including, Constituents, Call', end_of-Expr, more_of-Expr}
use Rattle.lido_syntax.specs.Computation.{Synthesized, Start, Behind, Output, Message, by_rule, by_symbol}
use Rattle.lido_syntax.specs.Sets.{Sets}
use Rattle.rule_tables.specs.PlainRules.{PlainRule, Whole, Listing, Link, End}
use Rattle.rule_tables.specs.Forced.{Force}
use Rattle.rule_tables.specs.Needs.{Tables}
use Rattle.rule_tables.specs.Slots.{Slot, Written, Inc, Con, Msg, Out}
use Rattle.rule_tables.specs.Slots as slot
use Rattle.trials_of_tables.specs.Writing.{name, computation}

-- the symbols by number, then attributes and the chain, names of rules, functions and texts
abbrev pub env : Environment
env = record {
  texts =
      codes "Num" ∷ codes "Counted" ∷ codes "Top" ∷ codes "Item" ∷ codes "b" ∷ codes "t" ∷ codes "no" ∷ codes "rTop" ∷ codes "rItem" ∷ codes "ADD" ∷ codes "IDENTICAL"
      ∷ codes "ZERO" ∷ codes "PTGNumb" ∷ codes "counted" ∷ codes "WARNING: " ∷ (10 ∷ []) ∷ [];
  patterns = [];
}

abbrev pub Num : ℕ
Num = 0

abbrev pub Counted : ℕ
Counted = 1

abbrev pub Top : ℕ
Top = 2

abbrev pub Item : ℕ
Item = 3

-- the cell of rTop
abbrev pub cell : ℕ
cell = 4

abbrev pub b : ℕ
b = 4

abbrev pub t : ℕ
t = 5

abbrev pub no : ℕ
no = 6

-- INCLUDING Top.b
abbrev pub pairs : List Pair
pairs = record { sym = name 94 Top; attr = name 98 b } ∷ []

-- CONSTITUENTS Item.t ..
abbrev pub with_sum : With
with_sum = record { ty = type.Int; comb = name 274 9; single = name 279 10; null = name 290 11 }

abbrev pub sum : Cons
sum = record { at = 231; number = 4; pairs = record { sym = name 244 Item; attr = name 249 t } ∷ []; shield = name 258 Item ∷ []; with = Some with_sum }

abbrev pub give_t : Comp
give_t = computation 75 0 (target.Attr place.Synt (name 80 t)) (Including 84 pairs)

abbrev pub give_b : Comp
give_b = computation 177 1 (target.Attr (place.Named (name 177 Top) None) (name 181 b)) (Int 185 (pos 1))

abbrev pub start : Comp
start = computation 190 2 (target.Start (name 206 no)) (Int 211 (pos 2))

abbrev pub out : Comp
out = computation 216 3 target.Out (Call' (name 223 12) (tt ∷ []) (more_of-Expr (Constituents sum) end_of-Expr))

abbrev pub give_no : Comp
give_no = computation 339 5 (target.Attr (place.Named (name 339 Item) None) (name 344 no))
    (Call' (name 357 9) (tt ∷ tt ∷ []) (more_of-Expr (Read 349 (place.Named (name 349 Item) None) (name 354 no)) (more_of-Expr (Terminal (name 359 Num) None) end_of-Expr)))

abbrev pub warn : Comp
warn = computation 366 6 (target.Message severity.Warning None) (Str 383 (record { 0 = 13 }))

abbrev pub top_rule : RuleItem
top_rule = record { at = 145; name = record { 0 = 7 }; left = name 151 Top; list = true; right = Symbol (name 162 Item) ∷ []; body = give_b ∷ start ∷ out ∷ [] }

abbrev pub item_rule : RuleItem
item_rule = record { at = 309; name = record { 0 = 8 }; left = name 316 Item; list = false; right = Symbol (name 325 Num) ∷ []; body = give_no ∷ warn ∷ [] }

abbrev pub class_item : SymbolItem
class_item = record { at = 46; class = true; names = name 59 Counted ∷ []; inherits = []; decls = []; body = give_t ∷ [] }

abbrev pub heir_item : SymbolItem
heir_item = record { at = 106; class = false; names = name 113 Item ∷ []; inherits = name 127 Counted ∷ []; decls = []; body = [] }

abbrev pub spec : Spec
spec = record {
  rules = top_rule ∷ item_rule ∷ [];
  symbols = class_item ∷ heir_item ∷ [];
  attrs = record { attr = name 5 b; ty = type.Int; kind = None } ∷ record { attr = name 8 t; ty = type.Int; kind = None } ∷ [];
  terms = record { name = name 36 Num; ty = type.Int } ∷ [];
  chains = record { name = name 22 no; ty = type.Int } ∷ [];
}

abbrev pub of_top : List Force
of_top = record { occ = 0; goal = Synthesized b; holder = by_rule; comp = give_b } ∷ record { occ = 0; goal = Start no; holder = by_rule; comp = start } ∷ record { occ = 0; goal = Output; holder = by_rule; comp = out } ∷ []

abbrev pub of_item : List Force
of_item = record { occ = 0; goal = Synthesized t; holder = by_symbol; comp = give_t } ∷ record { occ = 0; goal = Behind no; holder = by_rule; comp = give_no } ∷ record { occ = 0; goal = Message 1; holder = by_rule; comp = warn } ∷ []

abbrev pub symbols : List ℕ
symbols = Num ∷ Counted ∷ Top ∷ Item ∷ []

abbrev pub tables : Sets spec → Tables spec
tables sets = record { sets = sets; symbols = symbols; attributes = b ∷ t ∷ no ∷ []; includings = pairs ∷ []; constituents = sum ∷ []; forced = of_top ∷ of_item ∷ [] ∷ [] ∷ [] }

-- the plain rules: rTop leads to its cell, and the cell has an element and the next cell, or is the end
abbrev pub rule_of_top : PlainRule
rule_of_top = record { rule = 0; role = Listing; left = Top; right = cell ∷ [] }

abbrev pub rule_of_item : PlainRule
rule_of_item = record { rule = 1; role = Whole; left = Item; right = Num ∷ [] }

abbrev pub rule_of_link : PlainRule
rule_of_link = record { rule = 0; role = Link Item; left = cell; right = Item ∷ cell ∷ [] }

abbrev pub rule_of_end : PlainRule
rule_of_end = record { rule = 0; role = End; left = cell; right = [] }

-- the symbols below the root: Item and the cell
abbrev pub is_below : ℕ → Bool
is_below (suc (suc (suc zero))) = true
is_below (suc (suc (suc (suc zero)))) = true
is_below _ = false

-- the attributes of the symbols, by number
abbrev pub slots : ℕ → List Slot
slots (suc (suc zero)) = Written b ∷ Out ∷ []
slots (suc (suc (suc zero))) = Written t ∷ Inc 0 ∷ Con 4 ∷ slot.Front no ∷ slot.Behind no ∷ Msg 1 ∷ []
slots (suc (suc (suc (suc zero)))) = Inc 0 ∷ Con 4 ∷ slot.Front no ∷ slot.Behind no ∷ []
slots _ = []
