-- What the check says of a sequence, and of a plan.
use Rattle.std.specs.Prelude.{List, Option, Some, None, Result, Ok, Err}
use Rattle.flat_grammar.specs.declared.flat.FlatSymbol.{FlatSymbol}
use Rattle.flat_grammar.specs.declared.flat.FlatRule.{FlatRule}
use Rattle.flat_grammar.specs.declared.plan.VisitClass.{VisitClass}
use Rattle.flat_grammar.specs.declared.plan.PlanItem.{PlanItem}
use Rattle.flat_grammar.specs.SoundPlan.{IsSoundSequence, IsFault, IsSound, IsUnsound}
use Rattle.sequence_checker.specs.declared.fault.CheckFault.{CheckFault}
use Rattle.sequence_checker.specs.declared.fault.CheckFault.TheVariants.{Unsound, Memory}
use Rattle.sequence_checker.specs.declared.fault.SequenceFault.{SequenceFault}

-- the sequence's first fault, or none where it is sound
abbrev pub HasFirstFault : List FlatSymbol → List (List VisitClass) → FlatRule → List PlanItem → Option SequenceFault → Type 0
HasFirstFault symbols visits r seq None = IsSoundSequence symbols visits r seq
HasFirstFault symbols visits r seq (Some fault) = IsFault symbols visits r seq fault.place fault.clause

-- The plan is sound, or this is its first fault.
abbrev pub Verdict : List FlatSymbol → List FlatRule → List (List VisitClass) → List (List PlanItem) → Result (Unit {0}) CheckFault → Type 0
Verdict symbols rules visits seqs (Ok _) = IsSound symbols rules visits seqs
Verdict symbols rules visits seqs (Err (Unsound rule place clause)) = IsUnsound symbols rules visits seqs rule.0 place clause
Verdict symbols rules visits seqs (Err Memory) = ⊥

-- The answer is the verdict, or memory ran out.
abbrev pub Judges : List FlatSymbol → List FlatRule → List (List VisitClass) → List (List PlanItem) → Result (Unit {0}) CheckFault → Type 0
Judges symbols rules visits seqs (Err Memory) = Unit {0}
Judges symbols rules visits seqs answer = Verdict symbols rules visits seqs answer
