-- Small specifications, each with one fault. A place is a byte of the text that stands above the specification.
use Rattle.std.specs.Prelude.{ℕ, pos, true, false, List, [], ◌∷◌, Some, None, codes}
use Rattle.lido_base.specs.declared.kinds.Kind.TheVariants as kind
use Rattle.lido_base.specs.declared.value.ValueType.TheVariants as type
use Rattle.lido_base.specs.Environment.{Environment}
use Rattle.lido_syntax.specs.declared.spec.Spec.{Spec}
use Rattle.lido_syntax.specs.declared.spec.Comp.{Comp}
use Rattle.lido_syntax.specs.declared.spec.RuleItem.{RuleItem}
use Rattle.lido_syntax.specs.declared.spec.SymbolItem.{SymbolItem}
use Rattle.lido_syntax.specs.declared.spec.Element.{Element}
use Rattle.lido_syntax.specs.declared.spec.Element.TheVariants.{Symbol}
use Rattle.lido_syntax.specs.declared.spec.Target.TheVariants as target
use Rattle.lido_syntax.specs.declared.spec.Place.TheVariants as place
use Rattle.lido_syntax.specs.declared.spec.Expr.{Int, Terminal, Call', end_of-Expr}
use Rattle.lido_syntax.specs.Sets.{Sets}
use Rattle.rule_tables.specs.Needs.{Tables}
use Rattle.trials_of_tables.specs.Writing.{name, computation}

-- symbols, attributes, rules and a function
abbrev pub env : Environment
env = record { texts = codes "S" ∷ codes "X" ∷ codes "Y" ∷ codes "a" ∷ codes "r" ∷ codes "q" ∷ codes "PTGNull" ∷ []; patterns = [] }

abbrev pub S : ℕ
S = 0

abbrev pub X : ℕ
X = 1

abbrev pub Y : ℕ
Y = 2

abbrev pub a : ℕ
a = 3

abbrev pub r : ℕ
r = 4

abbrev pub q : ℕ
q = 5

abbrev pub rule_at : ℕ → ℕ → ℕ → ℕ → List Element → List Comp → RuleItem
rule_at at id left_at left right body = record { at = at; name = record { 0 = id }; left = name left_at left; list = false; right = right; body = body }

abbrev pub of_rules : List RuleItem → Spec
of_rules rules = record { rules = rules; symbols = []; attrs = []; terms = []; chains = [] }

-- RULE r: S ::= X COMPUTE Y.a = 1; END;
abbrev pub foreign : Comp
foreign = computation 24 0 (target.Attr (place.Named (name 24 Y) None) (name 26 a)) (Int 30 (pos 1))

abbrev pub foreign_rule : RuleItem
foreign_rule = rule_at 5 r 8 S (Symbol (name 14 X) ∷ []) (foreign ∷ [])

abbrev pub unknown_symbol : Spec
unknown_symbol = of_rules (foreign_rule ∷ [])

-- RULE r: S ::= X END; RULE r: X ::= END;
abbrev pub first_rule : RuleItem
first_rule = rule_at 5 r 8 S (Symbol (name 14 X) ∷ []) []

abbrev pub same_name : RuleItem
same_name = rule_at 26 r 29 X [] []

abbrev pub duplicate_rule : Spec
duplicate_rule = of_rules (first_rule ∷ same_name ∷ [])

-- RULE r: S ::= END; RULE q: X ::= END;
abbrev pub two_roots : Spec
two_roots = of_rules (rule_at 5 r 8 S [] [] ∷ rule_at 24 q 27 X [] [] ∷ [])

-- CLASS SYMBOL X END; RULE r: S ::= X END;
abbrev pub class_item : SymbolItem
class_item = record { at = 0; class = true; names = name 13 X ∷ []; inherits = []; decls = []; body = [] }

abbrev pub rule_of_class : RuleItem
rule_of_class = rule_at 25 r 28 S (Symbol (name 34 X) ∷ []) []

abbrev pub kind_clash : Spec
kind_clash = record { rules = rule_of_class ∷ []; symbols = class_item ∷ []; attrs = []; terms = []; chains = [] }

-- RULE r: S ::= X X COMPUTE S.a = X; END;
abbrev pub no_index : Comp
no_index = computation 26 0 (target.Attr (place.Named (name 26 S) None) (name 28 a)) (Terminal (name 32 X) None)

abbrev pub rule_of_two : RuleItem
rule_of_two = rule_at 5 r 8 S (Symbol (name 14 X) ∷ Symbol (name 16 X) ∷ []) (no_index ∷ [])

abbrev pub bad_index : Spec
bad_index = of_rules (rule_of_two ∷ [])

-- RULE r: S ::= COMPUTE S.a = 1; S.a = 2; END;
abbrev pub one : Comp
one = computation 22 0 (target.Attr (place.Named (name 22 S) None) (name 24 a)) (Int 28 (pos 1))

abbrev pub two : Comp
two = computation 31 1 (target.Attr (place.Named (name 31 S) None) (name 33 a)) (Int 37 (pos 2))

abbrev pub rule_of_twice : RuleItem
rule_of_twice = rule_at 5 r 8 S [] (one ∷ two ∷ [])

abbrev pub double_computation : Spec
double_computation = of_rules (rule_of_twice ∷ [])

-- RULE r: S ::= COMPUTE PTGOut(PTGNull()); PTGOut(PTGNull()); END;
abbrev pub first_out : Comp
first_out = computation 22 0 target.Out (Call' (name 29 6) [] end_of-Expr)

abbrev pub second_out : Comp
second_out = computation 41 1 target.Out (Call' (name 48 6) [] end_of-Expr)

abbrev pub rule_of_outs : RuleItem
rule_of_outs = rule_at 5 r 8 S [] (first_out ∷ second_out ∷ [])

abbrev pub bad_out : Spec
bad_out = of_rules (rule_of_outs ∷ [])

-- CLASS SYMBOL X INHERITS Y END; CLASS SYMBOL Y INHERITS X, Y END;
abbrev pub lower_class : SymbolItem
lower_class = record { at = 0; class = true; names = name 13 X ∷ []; inherits = name 24 Y ∷ []; decls = []; body = [] }

abbrev pub upper_class : SymbolItem
upper_class = record { at = 31; class = true; names = name 44 Y ∷ []; inherits = name 55 X ∷ name 58 Y ∷ []; decls = []; body = [] }

abbrev pub class_cycle : Spec
class_cycle = record { rules = []; symbols = lower_class ∷ upper_class ∷ []; attrs = []; terms = []; chains = [] }

-- its symbols by number
abbrev pub tables_of_cycle : Sets class_cycle → Tables class_cycle
tables_of_cycle sets = record { sets = sets; symbols = X ∷ Y ∷ []; attributes = []; includings = []; constituents = []; forced = [] }

-- SYMBOL S: a: int SYNT; RULE r: S ::= END;
abbrev pub declaring_item : SymbolItem
declaring_item = record { at = 0; class = false; names = name 7 S ∷ []; inherits = []; decls = record { attr = name 10 a; ty = type.Int; kind = Some kind.Synthesized } ∷ []; body = [] }

abbrev pub empty_rule : RuleItem
empty_rule = rule_at 28 r 31 S [] []

abbrev pub missing_computation : Spec
missing_computation = record { rules = empty_rule ∷ []; symbols = declaring_item ∷ []; attrs = []; terms = []; chains = [] }

abbrev pub tables_of_missing : Sets missing_computation → Tables missing_computation
tables_of_missing sets = record { sets = sets; symbols = S ∷ []; attributes = a ∷ []; includings = []; constituents = []; forced = [] ∷ [] }
