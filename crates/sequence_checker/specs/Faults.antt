-- Which clause is the first one broken, as the checker finds it.
use Rattle.std.specs.Prelude.{ℕ, ◌<◌, Bool, true, not, ◌||◌, List, Option, Some, None, length, nat_eq, option_and_then, slice_get, slice_index, ◌-◌}
use Rattle.lido_base.specs.declared.ids.SymId.{SymId}
use Rattle.flat_grammar.specs.declared.flat.FlatSymbol.{FlatSymbol}
use Rattle.flat_grammar.specs.declared.flat.FlatRule.{FlatRule}
use Rattle.flat_grammar.specs.declared.plan.VisitClass.{VisitClass}
use Rattle.flat_grammar.specs.declared.plan.PlanItem.{PlanItem}
use Rattle.flat_grammar.specs.declared.plan.PlanItem.TheVariants.{Leave}
use Rattle.flat_grammar.specs.WellFormed.{is_nonterminal}
use Rattle.flat_grammar.specs.SoundPlan.{Allows, AllowsEnd}
use Rattle.sequence_checker.specs.declared.progress.Progress.{Progress}
use Rattle.sequence_checker.specs.Steps.{Follows}

-- of clauses that hold or don't: the first that doesn't, or none
abbrev pub IsFirstBroken : (ℕ → Type 0) → Option ℕ → Type 0
IsFirstBroken Holds None = (clause : ℕ) → Holds clause
IsFirstBroken Holds (Some clause) = ¬ Holds clause × ((c : ℕ) → c < clause → Holds c)

module _ (symbols : List FlatSymbol) (visits : List (List VisitClass)) (r : FlatRule) (p : Progress) where
  -- behind whatever items the checker has seen, this is the first clause that the item breaks
  abbrev pub JudgesItem : PlanItem → Option ℕ → Type 0
  JudgesItem item fault = (before : List PlanItem) → Follows visits r before p → IsFirstBroken (λ clause. Allows symbols visits r clause before item) fault

  -- behind these items, if the checker has seen them, this is the first clause that the end breaks
  abbrev pub JudgesEnd : List PlanItem → Option ℕ → Type 0
  JudgesEnd seq fault = Follows visits r seq p → IsFirstBroken (λ clause. AllowsEnd symbols visits r clause seq) fault

-- so many visits are all that the row has
abbrev pub is_all : Option (List VisitClass) → ℕ → Bool
is_all None n = true
is_all (Some row) n = nat_eq (length row) n

-- if a nonterminal stands at the occurrence, all its visits were made
abbrev pub is_visited : List FlatSymbol → List (List VisitClass) → Progress → ℕ → SymId → Bool
is_visited symbols visits p k s = not (is_nonterminal symbols s) || is_all (slice_get visits s.0) (slice_index p.made.items k)

-- the visit that the item ends
abbrev pub visit_ended : PlanItem → Option ℕ
visit_ended (Leave v) = Some v
visit_ended _ = None

-- the visit that the last item ends
abbrev pub last_ended : List PlanItem → Option ℕ
last_ended seq = option_and_then visit_ended (slice_get seq (length seq - 1))
