-- A grammar in which an attribute is inherited that nothing uses, so that its visit comes late, with its plan and its tree:
--
--   RULE rS: S ::= A B COMPUTE A.i = 1; S.v = B.v; PTGOut(PTGNumb(S.v)); END;
--   RULE rA: A ::= 'a' END;
--   RULE rB: B ::= 'b' COMPUTE B.v = 2; END;
--
--   visit S 1: out v out $out
--   visit A 1: in i
--   visit B 1: out v
--   rule rS: eval A.i; visit B 1; eval S.v; eval S.$out; visit A 1; leave 1
--   rule rA: leave 1
--   rule rB: eval B.v; leave 1
--
--   (rS (rA) (rB))
use Rattle.std.specs.Prelude.{ℕ, pos, List, [], ◌∷◌, Some, None, true, false}
use Rattle.lido_base.specs.declared.ids.AttrId.{AttrId}
use Rattle.lido_base.specs.declared.kinds.Kind.TheVariants.{Synthesized, Inherited}
use Rattle.lido_base.specs.declared.value.Value.TheVariants as value
use Rattle.lido_base.specs.declared.value.ValueType.TheVariants as type
use Rattle.lido_base.specs.declared.operation.Op.TheVariants as op
use Rattle.lido_base.specs.Plain.{Plain}
use Rattle.lido_base.specs.Tree.{Tree, Child}
use Rattle.flat_grammar.specs.declared.flat.Occ.{Occ}
use Rattle.flat_grammar.specs.declared.flat.FlatSymbol.{FlatSymbol}
use Rattle.flat_grammar.specs.declared.flat.FlatAttr.{FlatAttr}
use Rattle.flat_grammar.specs.declared.flat.FlatRule.{FlatRule}
use Rattle.flat_grammar.specs.declared.flat.FlatComp.{FlatComp}
use Rattle.flat_grammar.specs.declared.flat.FlatExpr.{Value, Read}
use Rattle.flat_grammar.specs.declared.flat.Shape.{Shape}
use Rattle.flat_grammar.specs.declared.plan.PlanItem.{PlanItem}
use Rattle.flat_grammar.specs.declared.plan.PlanItem.TheVariants.{Eval, Visit, Leave}
use Rattle.flat_grammar.specs.declared.plan.VisitClass.{VisitClass}
use Rattle.trials_of_grammar.specs.ListOfItems.{symbol, occurrence, call1}
use Rattle.trials_of_grammar.specs.ItemTrees.{node}

abbrev pub attribute : ℕ → AttrId
attribute a = record { 0 = a }

abbrev pub v_attribute : FlatAttr
v_attribute = record { name = record { 0 = 20 }; kind = Synthesized; ty = type.Int; written = true; message = false }

abbrev pub i_attribute : FlatAttr
i_attribute = record { name = record { 0 = 21 }; kind = Inherited; ty = type.Int; written = true; message = false }

abbrev pub out_attribute : FlatAttr
out_attribute = record { name = record { 0 = 22 }; kind = Synthesized; ty = type.Text; written = true; message = false }

-- S with v and $out, A with i, B with v
abbrev pub symbols : List FlatSymbol
symbols =
    record { name = record { 0 = 0 }; terminal = None; attrs = v_attribute ∷ out_attribute ∷ [] }
    ∷ record { name = record { 0 = 1 }; terminal = None; attrs = i_attribute ∷ [] }
    ∷ record { name = record { 0 = 2 }; terminal = None; attrs = v_attribute ∷ [] }
    ∷ []

-- the attribute occurrences S.v, S.$out, A.i and B.v of rS
abbrev pub S_v : Occ
S_v = occurrence 0 0

abbrev pub S_out : Occ
S_out = occurrence 0 1

abbrev pub A_i : Occ
A_i = occurrence 1 0

abbrev pub B_v : Occ
B_v = occurrence 2 0

abbrev pub i_of_A : FlatComp
i_of_A = record { goal = A_i; origin = 0; value = Value (value.Int (pos 1)); after = [] }

abbrev pub v_of_S : FlatComp
v_of_S = record { goal = S_v; origin = 0; value = Read B_v; after = [] }

abbrev pub out_of_S : FlatComp
out_of_S = record { goal = S_out; origin = 0; value = call1 2 op.Numb (Read S_v); after = [] }

abbrev pub v_of_B : FlatComp
v_of_B = record { goal = occurrence 0 0; origin = 0; value = Value (value.Int (pos 2)); after = [] }

abbrev pub S_rule : FlatRule
S_rule = record { name = record { 0 = 10 }; left = symbol 0; right = symbol 1 ∷ symbol 2 ∷ []; comps = i_of_A ∷ v_of_S ∷ out_of_S ∷ [] }

abbrev pub A_rule : FlatRule
A_rule = record { name = record { 0 = 11 }; left = symbol 1; right = []; comps = [] }

abbrev pub B_rule : FlatRule
B_rule = record { name = record { 0 = 12 }; left = symbol 2; right = []; comps = v_of_B ∷ [] }

abbrev pub rules : List FlatRule
rules = S_rule ∷ A_rule ∷ B_rule ∷ []

abbrev pub shapes : List Shape
shapes =
    record { rule = record { 0 = 0 }; list = false; right = symbol 1 ∷ symbol 2 ∷ [] }
    ∷ record { rule = record { 0 = 1 }; list = false; right = [] }
    ∷ record { rule = record { 0 = 2 }; list = false; right = [] }
    ∷ []

abbrev pub visits_of_S : List VisitClass
visits_of_S = record { inherited = []; synthesized = attribute 0 ∷ attribute 1 ∷ [] } ∷ []

abbrev pub visits_of_A : List VisitClass
visits_of_A = record { inherited = attribute 0 ∷ []; synthesized = [] } ∷ []

abbrev pub visits_of_B : List VisitClass
visits_of_B = record { inherited = []; synthesized = attribute 0 ∷ [] } ∷ []

abbrev pub visits : List (List VisitClass)
visits = visits_of_S ∷ visits_of_A ∷ visits_of_B ∷ []

abbrev pub S_sequence : List PlanItem
S_sequence = Eval A_i ∷ Visit 2 1 ∷ Eval S_v ∷ Eval S_out ∷ Visit 1 1 ∷ Leave 1 ∷ []

abbrev pub A_sequence : List PlanItem
A_sequence = Leave 1 ∷ []

abbrev pub B_sequence : List PlanItem
B_sequence = Eval (occurrence 0 0) ∷ Leave 1 ∷ []

abbrev pub sequences : List (List PlanItem)
sequences = S_sequence ∷ A_sequence ∷ B_sequence ∷ []

abbrev pub tree : Tree Plain
tree = node 0 None 0 (Child 1 ∷ Child 2 ∷ []) ∷ node 1 (Some 0) 1 [] ∷ node 2 (Some 0) 2 [] ∷ []

-- sequences of rS that break a clause: a child that isn't there, a goal evaluated twice, a visit made twice, a visit before what
-- the child inherits, an evaluation before what it depends on, an end before what the visit owes, and no visit of A at all
abbrev pub no_such_child : List PlanItem
no_such_child = Visit 3 1 ∷ []

abbrev pub evaluated_twice : List PlanItem
evaluated_twice = Eval A_i ∷ Eval A_i ∷ []

abbrev pub visited_twice : List PlanItem
visited_twice = Visit 2 1 ∷ Visit 2 1 ∷ []

abbrev pub visited_too_early : List PlanItem
visited_too_early = Visit 1 1 ∷ []

abbrev pub evaluated_too_early : List PlanItem
evaluated_too_early = Eval S_v ∷ []

abbrev pub left_too_early : List PlanItem
left_too_early = Eval A_i ∷ Leave 1 ∷ []

abbrev pub last_visit_missing : List PlanItem
last_visit_missing = Eval A_i ∷ Visit 2 1 ∷ Eval S_v ∷ Eval S_out ∷ Leave 1 ∷ []

-- the plan with another sequence for rS
abbrev pub with_sequence : List PlanItem → List (List PlanItem)
with_sequence seq = seq ∷ A_sequence ∷ B_sequence ∷ []

-- the rows of induced dependencies: S.v comes before S.$out, which is bit 1 of row 0 of S
abbrev pub induced_rows : List (List ℕ)
induced_rows = (2 ∷ 0 ∷ []) ∷ (0 ∷ []) ∷ (0 ∷ []) ∷ []

-- the bit is not set
abbrev pub empty_rows : List (List ℕ)
empty_rows = (0 ∷ 0 ∷ []) ∷ (0 ∷ []) ∷ (0 ∷ []) ∷ []
