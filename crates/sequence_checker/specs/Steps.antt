-- What the checker keeps of the items of a sequence that it has seen.
use Rattle.std.specs.Prelude.{◌≡◌, ◌↔◌, ℕ, zero, suc, ◌<◌, ◌≤◌, ◌+◌, Bool, ◌||◌, IsTrue, List, [], Option, Some, None, Contains, count_by, length, slice_index, sum, All, ◌^◌, ◌++◌, ◌∷◌}
use Rattle.lido_base.specs.declared.ids.AttrId.{AttrId}
use Rattle.flat_grammar.specs.declared.flat.Occ.{Occ}
use Rattle.flat_grammar.specs.declared.flat.FlatRule.{FlatRule}
use Rattle.flat_grammar.specs.declared.flat.FlatSymbol.{FlatSymbol}
use Rattle.flat_grammar.specs.declared.flat.FlatComp.{FlatComp}
use Rattle.flat_grammar.specs.WellFormed.{IsRule}
use Rattle.flat_grammar.specs.declared.plan.VisitClass.{VisitClass}
use Rattle.flat_grammar.specs.declared.plan.PlanItem.{PlanItem}
use Rattle.flat_grammar.specs.Rules.{symbols_of}
use Rattle.flat_grammar.specs.SoundPlan.{is_leave, visits_made, segment_after, IsEvaluated, Allows}
use Rattle.sequence_checker.specs.declared.set.Occurrences.{Occurrences}
use Rattle.sequence_checker.specs.declared.progress.Progress.{Progress}
use Rattle.sequence_checker.specs.Sets.{has, is_one_of}
use Rattle.sequence_checker.specs.Classes.{class_of}

-- how many visits of the symbol at an occurrence came to their end: the left side's by Leave items, a child's by its visits
abbrev pub ended : List PlanItem → ℕ → ℕ
ended before zero = count_by is_leave before
ended before (suc k) = visits_made before (suc k)

-- up to which visit the symbol at an occurrence has what passes: the left side up to the present one, a child up to the last that was made
abbrev pub passed_up_to : List PlanItem → ℕ → ℕ
passed_up_to before zero = segment_after before
passed_up_to before (suc k) = visits_made before (suc k)

-- what passes to the left side is inherited, what passes from a child is synthesized
abbrev pub passing : ℕ → Option VisitClass → List AttrId
passing k None = []
passing zero (Some class) = class.inherited
passing (suc k) (Some class) = class.synthesized

-- the checker has seen its value come
abbrev pub is_at_hand : Progress → Occ → Bool
is_at_hand p o = has p.evaluated o || has p.given o

module _ (visits : List (List VisitClass)) (r : FlatRule) where
  -- it passed in a visit
  abbrev pub IsGiven : List PlanItem → Occ → Type 0
  IsGiven before o = (v : ℕ) × (v ≤ passed_up_to before o.occ) × Contains (passing o.occ (class_of visits r o.occ v)) o.attr

  -- the set has become larger by what passes in this visit
  abbrev pub Gave : ℕ → ℕ → Occurrences → Occurrences → Type 0
  Gave k v old new = (o : Occ) → has new o ≡ (has old o || is_one_of k (passing k (class_of visits r k v)) o)

  -- the checker has seen these items
  pub record Follows (before : List PlanItem) (p : Progress) : Type 0 where
    pub evaluated : (o : Occ) → IsTrue (has p.evaluated o) ↔ IsEvaluated before o
    pub given : (o : Occ) → IsTrue (has p.given o) ↔ IsGiven before o
    pub each : length p.made.items ≡ length (symbols_of r)
    pub made : (k : ℕ) → k < length (symbols_of r) → slice_index p.made.items k ≡ ended before k
    pub small : All (λ n. n < 2 ^ 16) p.made.items
    pub counted : length before ≡ count_by (λ (c : FlatComp). has p.evaluated c.goal) r.comps + sum p.made.items

  -- whatever items the checker has seen, it has then seen this one too, if all clauses allow it there
  abbrev pub GoesOn : PlanItem → Progress → Progress → Type 0
  GoesOn item p q = (symbols : List FlatSymbol) (before : List PlanItem) → IsRule symbols r → Follows before p → ((clause : ℕ) → Allows symbols visits r clause before item) → Follows (before ++ item ∷ []) q
