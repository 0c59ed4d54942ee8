-- The faults behind a class that inherits itself.
use Rattle.std.specs.Prelude.{[], ◌∷◌, Option, MatchOption}
use Rattle.lido_base.specs.Faults.{HasNone, First}
use Rattle.lido_syntax.specs.declared.fault.SpecFault.{SpecFault}
use Rattle.rule_tables.specs.declared.table.Tables.{Tables}
use Rattle.rule_tables.specs.Needs.{Tables as Numbered}
use Rattle.rule_tables.specs.InForceFaults.{IsClashInherited, IsMissingComputation}

-- the first of the later faults, if there is one
abbrev pub IsLaterFault : (t : Tables) → Numbered t.spec → Option SpecFault → Type 0
IsLaterFault t T fault = MatchOption fault (HasNone (IsClashInherited t.spec T ∷ IsMissingComputation t.spec T ∷ [])) (First (IsClashInherited t.spec T ∷ IsMissingComputation t.spec T ∷ []))
