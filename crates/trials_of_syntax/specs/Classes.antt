-- Computations of a rule, of a symbol and of classes for one attribute.
use Rattle.std.specs.Prelude.{ℕ, true, false, List, [], ◌∷◌}
use Rattle.lido_base.specs.declared.value.ValueType.TheVariants as type
use Rattle.lido_syntax.specs.declared.spec.Spec.{Spec}
use Rattle.lido_syntax.specs.declared.spec.Comp.{Comp}
use Rattle.lido_syntax.specs.declared.spec.RuleItem.{RuleItem}
use Rattle.lido_syntax.specs.declared.spec.SymbolItem.{SymbolItem}
use Rattle.lido_syntax.specs.declared.spec.Place.TheVariants as place
use Rattle.lido_syntax.specs.declared.spec.Target.TheVariants as target
use Rattle.lido_syntax.specs.Production.{left_of}
use Rattle.lido_syntax.specs.Computation.{Synthesized, Holder, InForce}
use Rattle.trials_of_syntax.specs.Writing.{name, int, call, read, named, attr, comp, plain_rule, symbol_item, declaration, typed, ADD}

abbrev pub Top : ℕ
Top = 20

abbrev pub X : ℕ
X = 21

abbrev pub Y : ℕ
Y = 22

abbrev pub Z : ℕ
Z = 23

abbrev pub C : ℕ
C = 24

abbrev pub D : ℕ
D = 25

abbrev pub v : ℕ
v = 30

-- SYNT.v = value
abbrev pub synt : ℕ → ℕ → Comp
synt number value = comp number (attr place.Synt v) (int value)

abbrev pub three : Comp
three = comp 5 (attr (named X) v) (int 3)

abbrev pub x_rule : RuleItem
x_rule = plain_rule X [] (three ∷ [])

abbrev pub y_rule : RuleItem
y_rule = plain_rule Y [] []

abbrev pub z_rule : RuleItem
z_rule = plain_rule Z [] []

abbrev pub top_rule : RuleItem
top_rule = plain_rule Top (X ∷ Y ∷ Z ∷ []) []

abbrev pub rules : List RuleItem
rules = top_rule ∷ x_rule ∷ y_rule ∷ z_rule ∷ []

abbrev pub with_symbols : List SymbolItem → Spec
with_symbols items = record { rules = rules; symbols = items; attrs = declaration v type.Int ∷ []; terms = []; chains = [] }

-- CLASS SYMBOL C COMPUTE SYNT.v = 1; END;
abbrev pub class_c : SymbolItem
class_c = symbol_item true C [] (synt 0 1 ∷ [])

--   CLASS SYMBOL C COMPUTE SYNT.v = 1; END;
--   SYMBOL X INHERITS C COMPUTE SYNT.v = 2; END;
--   SYMBOL Y INHERITS C COMPUTE SYNT.v = 2; END;
--   SYMBOL Z INHERITS C END;
--   RULE rX: X ::= 'x' COMPUTE X.v = 3; END;
abbrev pub class_symbol_rule : Spec
class_symbol_rule = with_symbols (class_c ∷ symbol_item false X (C ∷ []) (synt 1 2 ∷ []) ∷ symbol_item false Y (C ∷ []) (synt 2 2 ∷ []) ∷ symbol_item false Z (C ∷ []) [] ∷ [])

--   CLASS SYMBOL C COMPUTE SYNT.v = 1; END;
--   CLASS SYMBOL D INHERITS C COMPUTE SYNT.v = 2; END;
--   SYMBOL Z INHERITS C, D END;
abbrev pub class_of_class : Spec
class_of_class = with_symbols (class_c ∷ symbol_item true D (C ∷ []) (synt 1 2 ∷ []) ∷ symbol_item false Z (C ∷ D ∷ []) [] ∷ [])

--   CLASS SYMBOL C COMPUTE SYNT.v = 1; END;
--   CLASS SYMBOL D COMPUTE SYNT.v = 2; END;
--   SYMBOL Z INHERITS C, D END;
abbrev pub two_classes : Spec
two_classes = with_symbols (class_c ∷ symbol_item true D [] (synt 1 2 ∷ []) ∷ symbol_item false Z (C ∷ D ∷ []) [] ∷ [])

abbrev pub no : ℕ
no = 31

abbrev pub start : Comp
start = comp 0 (target.Start (name no)) (int 1)

abbrev pub next : Comp
next = comp 1 (attr place.This no) (call ADD (read place.This no ∷ int 1 ∷ []))

--   CHAIN no: int;
--   CLASS SYMBOL C COMPUTE CHAINSTART HEAD.no = 1; END;
--   SYMBOL Y COMPUTE THIS.no = THIS.no + 1; END;
--   SYMBOL Z INHERITS C END;
abbrev pub chain_in_symbols : Spec
chain_in_symbols = record (with_symbols (symbol_item true C [] (start ∷ []) ∷ symbol_item false Y [] (next ∷ []) ∷ symbol_item false Z (C ∷ []) [] ∷ [])) { chains = typed no type.Int ∷ [] }

-- the computation in force for v on the left side of the rule
abbrev pub Forces : Spec → RuleItem → Holder → Comp → Type 0
Forces spec r h c = InForce spec r 0 (left_of r) (Synthesized v) h c
