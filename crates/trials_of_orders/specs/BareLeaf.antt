-- The smallest grammar with two rules, in which Top.$out is no text but nothing at all:
--
--   RULE rTop: Top ::= Leaf END;
--   RULE rLeaf: Leaf ::= 'x' END;
use Rattle.std.specs.Prelude.{List, [], ◌∷◌, None, true, false}
use Rattle.lido_base.specs.declared.kinds.Kind.TheVariants.{Synthesized}
use Rattle.lido_base.specs.declared.value.ValueType.TheVariants as type
use Rattle.lido_base.specs.declared.value.Value.TheVariants as value
use Rattle.flat_grammar.specs.declared.flat.FlatSymbol.{FlatSymbol}
use Rattle.flat_grammar.specs.declared.flat.FlatRule.{FlatRule}
use Rattle.flat_grammar.specs.declared.flat.FlatExpr.{Value}
use Rattle.flat_grammar.specs.declared.flat.Shape.{Shape}
use Rattle.trials_of_grammar.specs.ListOfItems.{symbol, occurrence}

-- Top with $out, Leaf with nothing
abbrev pub symbols : List FlatSymbol
symbols =
    record { name = record { 0 = 0 }; terminal = None; attrs = record { name = record { 0 = 20 }; kind = Synthesized; ty = type.Text; written = true; message = false } ∷ [] }
    ∷ record { name = record { 0 = 1 }; terminal = None; attrs = [] }
    ∷ []

abbrev pub Top_rule : FlatRule
Top_rule = record { name = record { 0 = 10 }; left = symbol 0; right = symbol 1 ∷ []; comps = record { goal = occurrence 0 0; origin = 0; value = Value value.Void; after = [] } ∷ [] }

abbrev pub Leaf_rule : FlatRule
Leaf_rule = record { name = record { 0 = 11 }; left = symbol 1; right = []; comps = [] }

abbrev pub rules : List FlatRule
rules = Top_rule ∷ Leaf_rule ∷ []

abbrev pub shapes : List Shape
shapes =
    record { rule = record { 0 = 0 }; list = false; right = symbol 1 ∷ [] }
    ∷ record { rule = record { 0 = 1 }; list = false; right = [] }
    ∷ []
