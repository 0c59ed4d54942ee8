-- The check's answer is the only one.
use Rattle.std.specs.Prelude.{Bool, false, slice_get, IsTrue, ◌↔◌}
use Rattle.std.specs.List.{AllZip, slice_index_or}
use Rattle.std.proofs.Common.{◌≡◌, ℕ, ◌+◌, ◌<◌, inl, inr, List, length, take, Option, Some, None, Result, Ok, Err, refl, ap, sym, subst, ◌∙◌}
use Rattle.std.proofs.lemmas.Option.{slice_get_read}
use Rattle.lido_base.specs.Phases.{Gives}
use Rattle.lido_base.specs.declared.ids.RuleId.{RuleId}
use Rattle.flat_grammar.specs.declared.flat.FlatSymbol.{FlatSymbol}
use Rattle.flat_grammar.specs.declared.flat.FlatRule.{FlatRule}
use Rattle.flat_grammar.specs.declared.plan.VisitClass.{VisitClass}
use Rattle.flat_grammar.specs.declared.plan.PlanItem.{PlanItem}
use Rattle.flat_grammar.specs.SoundPlan.{HasRows, IsSoundSequence, IsSound, IsUnsound, of_rows, of_rule}
use Rattle.flat_grammar.proofs.SoundPlanLemmas.{IsUnsound-only, IsSound-no_fault}
use Rattle.sequence_checker.specs.declared.fault.CheckFault.{CheckFault}
use Rattle.sequence_checker.specs.declared.fault.CheckFault.TheVariants.{Unsound, Memory}
use Rattle.sequence_checker.specs.declared.fault.SequenceFault.{SequenceFault}
use Rattle.sequence_checker.specs.Verdicts.{HasFirstFault, Judges, Verdict}
use Rattle.sequence_checker.proofs.Bools.{never}
use Rattle.sequence_checker.proofs.RowLemmas.{zip-more}

module _ (symbols : List FlatSymbol) (rules : List FlatRule) (visits : List (List VisitClass)) (seqs : List (List PlanItem)) where
  sound-only : IsSound symbols rules visits seqs → (other : Result (Unit {0}) CheckFault) → Verdict symbols rules visits seqs other → other ≡ Ok tt
  sound-only sound (Ok u) v = refl
  sound-only sound (Err (Unsound rule place clause)) v = absurd (IsSound-no_fault symbols rules visits seqs sound rule.0 place clause v)
  sound-only sound (Err Memory) v = absurd v

  unsound-only : (rule : RuleId) (place clause : ℕ) → IsUnsound symbols rules visits seqs rule.0 place clause → (other : Result (Unit {0}) CheckFault) → Verdict symbols rules visits seqs other → other ≡ Err (Unsound rule place clause)
  unsound-only rule place clause fault (Ok u) sound = absurd (IsSound-no_fault symbols rules visits seqs sound rule.0 place clause fault)
  unsound-only rule place clause fault (Err (Unsound r p c)) v =
      let same = IsUnsound-only symbols rules visits seqs r.0 p c rule.0 place clause v fault in λ i. Err (Unsound (record { 0 = same.0 i }) (same.1 i) (same.2 i))
  unsound-only rule place clause fault (Err Memory) v = absurd v

  -- a right answer is the only one, unless memory ran out
  pub judged : (answer : Result (Unit {0}) CheckFault) → Judges symbols rules visits seqs answer → Gives (λ (u : Unit {0}). u) (Verdict symbols rules visits seqs) Memory answer
  judged (Ok u) sound = record { is = sound; only = sound-only sound }
  judged (Err (Unsound rule place clause)) fault = inr (record { is = fault; only = unsound-only rule place clause fault })
  judged (Err Memory) v = inl refl

  -- the rows are wrong
  pub rows-wrong : (b : Bool) → (IsTrue b ↔ HasRows symbols rules visits seqs) → b ≡ false → Judges symbols rules visits seqs (Err (Unsound (record { 0 = 0 }) 0 0))
  rows-wrong b is e = of_rows (λ rows. never (sym e ∙ is.1 rows))

  -- Rule k, whose sequence is the k-th, where the sequences before it are sound.
  module _ (k : ℕ) (r : FlatRule) (seq : List PlanItem) (rule-at : slice_get rules k ≡ Some r) (seq-at : slice_get seqs k ≡ Some seq) (before : AllZip (IsSoundSequence symbols visits) (take k rules) (take k seqs)) (fault : Option SequenceFault)
      (first : HasFirstFault symbols visits r seq fault) where
    pub unsound-at : HasRows symbols rules visits seqs → (found : SequenceFault) → fault ≡ Some found → IsUnsound symbols rules visits seqs k found.place found.clause
    unsound-at rows found e = of_rule r seq rows rule-at seq-at (subst (HasFirstFault symbols visits r seq) e first) before

    pub sound-at : fault ≡ None → AllZip (IsSoundSequence symbols visits) (take (k + 1) rules) (take (k + 1) seqs)
    sound-at e = zip-more (IsSoundSequence symbols visits) rules seqs k r seq before rule-at seq-at (subst (HasFirstFault symbols visits r seq) e first)

-- what stands at a place of a list that was looked at
pub found-at : {X : Type 0} (xs seen : List X) (k : ℕ) (x : X) → seen ≡ xs → k < length seen → x ≡ slice_index_or seen k x → slice_get xs k ≡ Some x
found-at xs seen k x same within is = ap (λ l. slice_get l k) (sym same) ∙ slice_get_read seen (length seen) k x refl within is

pub first-same : (symbols seen : List FlatSymbol) (visits rows : List (List VisitClass)) (r : FlatRule) (seq : List PlanItem) (fault : Option SequenceFault) → seen ≡ symbols → rows ≡ visits
    → HasFirstFault seen rows r seq fault → HasFirstFault symbols visits r seq fault
first-same symbols seen visits rows r seq fault e f h = subst (λ s. HasFirstFault s visits r seq fault) e (subst (λ v. HasFirstFault seen v r seq fault) f h)
