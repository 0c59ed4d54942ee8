-- A child that two rules use in opposite orders. In each tree the values have an order, but the attributes of X have none:
--
--   RULE rX: X ::= 'x' COMPUTE X.s1 = X.i1; X.s2 = X.i2; END;
--   RULE rA: S ::= 'a' X COMPUTE X.i1 = X.s2; X.i2 = 0; END;
--   RULE rB: S ::= 'b' X COMPUTE X.i2 = X.s1; X.i1 = 0; END;
--
-- S.$out is nothing at all here.
use Rattle.std.specs.Prelude.{ℕ, List, [], ◌∷◌, None, true, false, pos}
use Rattle.lido_base.specs.declared.kinds.Kind.{Kind}
use Rattle.lido_base.specs.declared.kinds.Kind.TheVariants.{Synthesized, Inherited}
use Rattle.lido_base.specs.declared.value.Value.TheVariants as value
use Rattle.lido_base.specs.declared.value.ValueType.TheVariants as type
use Rattle.flat_grammar.specs.declared.flat.Occ.{Occ}
use Rattle.flat_grammar.specs.declared.flat.FlatSymbol.{FlatSymbol}
use Rattle.flat_grammar.specs.declared.flat.FlatAttr.{FlatAttr}
use Rattle.flat_grammar.specs.declared.flat.FlatRule.{FlatRule}
use Rattle.flat_grammar.specs.declared.flat.FlatComp.{FlatComp}
use Rattle.flat_grammar.specs.declared.flat.FlatExpr.{FlatExpr, Value, Read}
use Rattle.flat_grammar.specs.declared.flat.Shape.{Shape}
use Rattle.trials_of_grammar.specs.ListOfItems.{symbol, occurrence}

abbrev pub number : ℕ → Kind → FlatAttr
number name kind = record { name = record { 0 = name }; kind = kind; ty = type.Int; written = true; message = false }

-- X with s1, i1, s2 and i2, S with $out
abbrev pub symbols : List FlatSymbol
symbols =
    record { name = record { 0 = 0 }; terminal = None; attrs = number 20 Synthesized ∷ number 21 Inherited ∷ number 22 Synthesized ∷ number 23 Inherited ∷ [] }
    ∷ record { name = record { 0 = 1 }; terminal = None; attrs = record { name = record { 0 = 24 }; kind = Synthesized; ty = type.Text; written = true; message = false } ∷ [] }
    ∷ []

abbrev pub gives : Occ → FlatExpr → FlatComp
gives goal value = record { goal = goal; origin = 0; value = value; after = [] }

abbrev pub X_rule : FlatRule
X_rule = record { name = record { 0 = 10 }; left = symbol 0; right = []; comps = gives (occurrence 0 0) (Read (occurrence 0 1)) ∷ gives (occurrence 0 2) (Read (occurrence 0 3)) ∷ [] }

abbrev pub A_rule : FlatRule
A_rule = record { name = record { 0 = 11 }; left = symbol 1; right = symbol 0 ∷ []; comps = gives (occurrence 1 1) (Read (occurrence 1 2)) ∷ gives (occurrence 1 3) (Value (value.Int (pos 0))) ∷ gives (occurrence 0 0) (Value value.Void) ∷ [] }

abbrev pub B_rule : FlatRule
B_rule = record { name = record { 0 = 12 }; left = symbol 1; right = symbol 0 ∷ []; comps = gives (occurrence 1 3) (Read (occurrence 1 0)) ∷ gives (occurrence 1 1) (Value (value.Int (pos 0))) ∷ gives (occurrence 0 0) (Value value.Void) ∷ [] }

abbrev pub rules : List FlatRule
rules = X_rule ∷ A_rule ∷ B_rule ∷ []

abbrev pub shapes : List Shape
shapes =
    record { rule = record { 0 = 0 }; list = false; right = [] }
    ∷ record { rule = record { 0 = 1 }; list = false; right = symbol 0 ∷ [] }
    ∷ record { rule = record { 0 = 2 }; list = false; right = symbol 0 ∷ [] }
    ∷ []
