-- How an answer ends: its status, and its line on err.
use Rattle.std.specs.Prelude.{◌≡◌, ◌⊎◌, ℕ, List, [], map, Result, Ok, Err}
use Rattle.lido_base.specs.Phases.{IsThe}
use Rattle.lido_base.specs.declared.ids.StrId.{StrId}
use Rattle.lido_syntax.specs.declared.fault.SpecFault.{SpecFault}
use Rattle.lido_syntax.specs.declared.fault.SpecFault.TheVariants as fault
use Rattle.order_report.specs.declared.status.Status.{Status}
use Rattle.order_report.specs.declared.status.Status.TheVariants as status
use Rattle.order_report.specs.Lines.{line_of}

-- the same id for every name
abbrev pub left_out : StrId → StrId
left_out id = record { 0 = 0 }

-- the fault with its names left out
abbrev pub nameless_fault : SpecFault → SpecFault
nameless_fault (fault.ClassCycle path) = fault.ClassCycle (map left_out path)
nameless_fault (fault.ClashInherited sym attr first second) = fault.ClashInherited (left_out sym) (left_out attr) first second
nameless_fault (fault.MissingComputation rule occ attr) = fault.MissingComputation (left_out rule) occ (left_out attr)
nameless_fault (fault.NoIncluding path) = fault.NoIncluding (map left_out path)
nameless_fault (fault.ChainNoStart chain path) = fault.ChainNoStart (left_out chain) (map left_out path)
nameless_fault f = f

-- the status with its names left out
abbrev pub nameless : Status → Status
nameless (status.Spec fault) = status.Spec (nameless_fault fault)
nameless s = s

-- The status with its names left out, and its line, in which their texts stand. So the ids of names are no part of an answer, and
-- neither is the order in which texts got them.
pub record Ending : Type 0 where
  pub status : Status
  pub line : List ℕ

-- how a call ends that has this status, whose names have their texts in this table
abbrev pub ending : List (List ℕ) → Status → Ending
ending texts s = record { status = nameless s; line = line_of texts s }

-- the same where no name stands in the status
abbrev pub plainly : Status → Ending
plainly s = ending [] s

-- how a call ends for want of memory
abbrev pub no_memory : Ending
no_memory = plainly status.Memory

-- The result is what the phase gives and nothing else, where its value and its refusal are seen like this; or memory ran out.
abbrev pub GivesAs : {X F A S : Type 0} → (X → A) → (F → S) → (Result A S → Type 0) → S → Result X F → Type 0
GivesAs view see p memory (Ok x) = IsThe p (Ok (view x))
GivesAs view see p memory (Err e) = (see e ≡ memory) ⊎ IsThe p (Err (see e))
