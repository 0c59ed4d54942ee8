-- The plans of the late inherited attribute and of the list of items, and the texts that their names stand for.
use Rattle.std.specs.Prelude.{ℕ, List, [], ◌∷◌, ◌++◌, codes}
use Rattle.std.specs.List.{concat, repeat}
use Rattle.flat_grammar.specs.declared.plan.PlanItem.{PlanItem}
use Rattle.flat_grammar.specs.declared.plan.PlanItem.TheVariants.{Eval, Visit, Leave}
use Rattle.flat_grammar.specs.declared.plan.VisitClass.{VisitClass}
use Rattle.trials_of_grammar.specs.LateInherited.{attribute}
use Rattle.trials_of_grammar.specs.ListOfItems.{occurrence}

-- so many texts that no name stands for
abbrev pub others : ℕ → List (List ℕ)
others n = repeat n ([] ∷ [])

-- the names of the late inherited attribute's grammar: symbols from 0, rules from 10, attributes from 20
abbrev pub texts_of_late : List (List ℕ)
texts_of_late =
    (codes "S" ∷ codes "A" ∷ codes "B" ∷ []) ++ others 7 ++ (codes "rS" ∷ codes "rA" ∷ codes "rB" ∷ []) ++ others 7
    ++ (codes "v" ∷ codes "i" ∷ codes "$out" ∷ [])

-- the names of the list's grammar: symbols from 0, rules from 10, attributes from 20
abbrev pub texts_of_list : List (List ℕ)
texts_of_list =
    (codes "Top" ∷ codes "Item" ∷ codes "Num" ∷ codes "$rTop" ∷ []) ++ others 6
    ++ (codes "rTop" ∷ codes "rItem" ∷ codes "rTop$Item" ∷ codes "rTop$" ∷ []) ++ others 6 ++ (codes "$out" ∷ codes "n" ∷ codes "$con1" ∷ [])

-- a visit that gives these
abbrev pub giving : List ℕ → List VisitClass
giving [] = record { inherited = []; synthesized = [] } ∷ []
giving (a ∷ []) = record { inherited = []; synthesized = attribute a ∷ [] } ∷ []
giving (a ∷ b ∷ more) = record { inherited = []; synthesized = attribute a ∷ attribute b ∷ [] } ∷ []

-- the list's plan: Top gives $out, Item gives n and $con1, a number has no visit, the cell gives $con1
abbrev pub visits_of_list : List (List VisitClass)
visits_of_list = giving (0 ∷ []) ∷ giving (0 ∷ 1 ∷ []) ∷ [] ∷ giving (0 ∷ []) ∷ []

abbrev pub sequences_of_list : List (List PlanItem)
sequences_of_list =
    (Visit 1 1 ∷ Eval (occurrence 0 0) ∷ Leave 1 ∷ [])
    ∷ (Eval (occurrence 0 0) ∷ Eval (occurrence 0 1) ∷ Leave 1 ∷ [])
    ∷ (Visit 1 1 ∷ Visit 2 1 ∷ Eval (occurrence 0 0) ∷ Leave 1 ∷ [])
    ∷ (Eval (occurrence 0 0) ∷ Leave 1 ∷ [])
    ∷ []

-- the report of the late inherited attribute's order
abbrev pub report_of_late : List ℕ
report_of_late = concat (
    codes "visit S 1: out v out $out\n"
    ∷ codes "visit A 1: in i\n"
    ∷ codes "visit B 1: out v\n"
    ∷ codes "rule rS: eval A.i; visit B 1; eval S.v; eval S.$out; visit A 1; leave 1\n"
    ∷ codes "rule rA: leave 1\n"
    ∷ codes "rule rB: eval B.v; leave 1\n"
    ∷ [])

-- the report of the list's order, in which the cell stands twice in its own rule
abbrev pub report_of_list : List ℕ
report_of_list = concat (
    codes "visit Top 1: out $out\n"
    ∷ codes "visit Item 1: out n out $con1\n"
    ∷ codes "visit $rTop 1: out $con1\n"
    ∷ codes "rule rTop: visit $rTop 1; eval Top.$out; leave 1\n"
    ∷ codes "rule rItem: eval Item.n; eval Item.$con1; leave 1\n"
    ∷ codes "rule rTop$Item: visit Item 1; visit $rTop[2] 1; eval $rTop[1].$con1; leave 1\n"
    ∷ codes "rule rTop$: eval $rTop.$con1; leave 1\n"
    ∷ [])
