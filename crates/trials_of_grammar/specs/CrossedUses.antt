-- Two children each of which wants what the other gives. No tree has a circle of values, but the classes of X make one in rS:
--
--   RULE rS: S ::= X X COMPUTE X[1].i = X[2].s; X[2].i = X[1].s; END;
--   RULE rX: X ::= 'x' COMPUTE X.s = 1; END;
--
--   circular in rS: X[1].i partition X[1].s direct X[2].i partition X[2].s direct X[1].i
use Rattle.std.specs.Prelude.{pos, List, [], ◌∷◌, None, true, false}
use Rattle.lido_base.specs.declared.kinds.Kind.TheVariants.{Synthesized, Inherited}
use Rattle.lido_base.specs.declared.value.Value.TheVariants as value
use Rattle.lido_base.specs.declared.value.ValueType.TheVariants as type
use Rattle.lido_base.specs.declared.operation.Op.TheVariants as op
use Rattle.flat_grammar.specs.declared.flat.Occ.{Occ}
use Rattle.flat_grammar.specs.declared.flat.FlatSymbol.{FlatSymbol}
use Rattle.flat_grammar.specs.declared.flat.FlatAttr.{FlatAttr}
use Rattle.flat_grammar.specs.declared.flat.FlatRule.{FlatRule}
use Rattle.flat_grammar.specs.declared.flat.FlatComp.{FlatComp}
use Rattle.flat_grammar.specs.declared.flat.FlatExpr.{Value, Read}
use Rattle.flat_grammar.specs.declared.flat.Shape.{Shape}
use Rattle.flat_grammar.specs.declared.plan.CycleStep.{CycleStep}
use Rattle.flat_grammar.specs.declared.plan.Label.{Label}
use Rattle.flat_grammar.specs.declared.plan.Label.TheVariants.{Direct, Induced, Partition}
use Rattle.trials_of_grammar.specs.ListOfItems.{symbol, occurrence, call0}

abbrev pub i_attribute : FlatAttr
i_attribute = record { name = record { 0 = 20 }; kind = Inherited; ty = type.Int; written = true; message = false }

abbrev pub s_attribute : FlatAttr
s_attribute = record { name = record { 0 = 21 }; kind = Synthesized; ty = type.Int; written = true; message = false }

abbrev pub out_attribute : FlatAttr
out_attribute = record { name = record { 0 = 22 }; kind = Synthesized; ty = type.Text; written = true; message = false }

-- S with $out, X with i and s
abbrev pub symbols : List FlatSymbol
symbols =
    record { name = record { 0 = 0 }; terminal = None; attrs = out_attribute ∷ [] }
    ∷ record { name = record { 0 = 1 }; terminal = None; attrs = i_attribute ∷ s_attribute ∷ [] }
    ∷ []

-- the attribute occurrences of rS
abbrev pub X1_i : Occ
X1_i = occurrence 1 0

abbrev pub X1_s : Occ
X1_s = occurrence 1 1

abbrev pub X2_i : Occ
X2_i = occurrence 2 0

abbrev pub X2_s : Occ
X2_s = occurrence 2 1

abbrev pub i_of_X1 : FlatComp
i_of_X1 = record { goal = X1_i; origin = 0; value = Read X2_s; after = [] }

abbrev pub i_of_X2 : FlatComp
i_of_X2 = record { goal = X2_i; origin = 0; value = Read X1_s; after = [] }

abbrev pub out_of_S : FlatComp
out_of_S = record { goal = occurrence 0 0; origin = 0; value = call0 0 op.Null; after = [] }

abbrev pub s_of_X : FlatComp
s_of_X = record { goal = occurrence 0 1; origin = 0; value = Value (value.Int (pos 1)); after = [] }

abbrev pub S_rule : FlatRule
S_rule = record { name = record { 0 = 10 }; left = symbol 0; right = symbol 1 ∷ symbol 1 ∷ []; comps = i_of_X1 ∷ i_of_X2 ∷ out_of_S ∷ [] }

abbrev pub X_rule : FlatRule
X_rule = record { name = record { 0 = 11 }; left = symbol 1; right = []; comps = s_of_X ∷ [] }

abbrev pub rules : List FlatRule
rules = S_rule ∷ X_rule ∷ []

abbrev pub shapes : List Shape
shapes =
    record { rule = record { 0 = 0 }; list = false; right = symbol 1 ∷ symbol 1 ∷ [] }
    ∷ record { rule = record { 0 = 1 }; list = false; right = [] }
    ∷ []

abbrev pub step : Occ → Label → CycleStep
step u label = record { from = u; label = label }

abbrev pub circle : List CycleStep
circle = step X1_i Partition ∷ step X1_s Direct ∷ step X2_i Partition ∷ step X2_s Direct ∷ []

-- i of X comes before s by the partition alone: no rule induces it
abbrev pub wrong_label : List CycleStep
wrong_label = step X1_i Partition ∷ step X1_s Direct ∷ step X2_i Induced ∷ step X2_s Direct ∷ []

-- the same walk begun at another vertex than the least one
abbrev pub wrong_start : List CycleStep
wrong_start = step X1_s Direct ∷ step X2_i Partition ∷ step X2_s Direct ∷ step X1_i Partition ∷ []
