-- A child that is visited twice, whose second visit takes what the first one gave, and that has a terminal:
--
--   RULE rS: S ::= X COMPUTE X.i = 1; X.j = X.s; S.r = X.t; END;
--   RULE rX: X ::= Num COMPUTE X.s = X.i; X.t = X.j; END;
use Rattle.std.specs.Prelude.{ℕ, List, [], ◌∷◌, Some, None, true, false, pos}
use Rattle.lido_base.specs.declared.kinds.Kind.{Kind}
use Rattle.lido_base.specs.declared.kinds.Kind.TheVariants.{Synthesized, Inherited}
use Rattle.lido_base.specs.declared.value.Value.TheVariants as value
use Rattle.lido_base.specs.declared.value.ValueType.TheVariants as type
use Rattle.flat_grammar.specs.declared.flat.Occ.{Occ}
use Rattle.flat_grammar.specs.declared.flat.FlatSymbol.{FlatSymbol}
use Rattle.flat_grammar.specs.declared.flat.FlatAttr.{FlatAttr}
use Rattle.flat_grammar.specs.declared.flat.FlatRule.{FlatRule}
use Rattle.flat_grammar.specs.declared.flat.FlatComp.{FlatComp}
use Rattle.flat_grammar.specs.declared.flat.FlatExpr.{FlatExpr, Value, Read}
use Rattle.flat_grammar.specs.declared.flat.Shape.{Shape}
use Rattle.trials_of_grammar.specs.ListOfItems.{symbol, occurrence}

abbrev pub number : ℕ → Kind → FlatAttr
number name kind = record { name = record { 0 = name }; kind = kind; ty = type.Int; written = true; message = false }

-- S with r; X with i, s, j and t; the terminal Num
abbrev pub symbols : List FlatSymbol
symbols =
    record { name = record { 0 = 0 }; terminal = None; attrs = number 20 Synthesized ∷ [] }
    ∷ record { name = record { 0 = 1 }; terminal = None; attrs = number 21 Inherited ∷ number 22 Synthesized ∷ number 23 Inherited ∷ number 24 Synthesized ∷ [] }
    ∷ record { name = record { 0 = 2 }; terminal = Some type.Int; attrs = [] }
    ∷ []

abbrev pub gives : Occ → FlatExpr → FlatComp
gives goal value = record { goal = goal; origin = 0; value = value; after = [] }

abbrev pub S_rule : FlatRule
S_rule = record { name = record { 0 = 10 }; left = symbol 0; right = symbol 1 ∷ []; comps = gives (occurrence 1 0) (Value (value.Int (pos 1))) ∷ gives (occurrence 1 2) (Read (occurrence 1 1)) ∷ gives (occurrence 0 0) (Read (occurrence 1 3)) ∷ [] }

abbrev pub X_rule : FlatRule
X_rule = record { name = record { 0 = 11 }; left = symbol 1; right = symbol 2 ∷ []; comps = gives (occurrence 0 1) (Read (occurrence 0 0)) ∷ gives (occurrence 0 3) (Read (occurrence 0 2)) ∷ [] }

abbrev pub rules : List FlatRule
rules = S_rule ∷ X_rule ∷ []

abbrev pub shapes : List Shape
shapes =
    record { rule = record { 0 = 0 }; list = false; right = symbol 1 ∷ [] }
    ∷ record { rule = record { 0 = 1 }; list = false; right = symbol 2 ∷ [] }
    ∷ []
