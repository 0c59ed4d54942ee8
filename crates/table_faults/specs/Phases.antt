-- The faults of the tables in parts, in their order; the limits come last.
use Rattle.std.specs.Prelude.{List, [], ◌∷◌}
use Rattle.lido_base.specs.Environment.{Environment}
use Rattle.lido_base.specs.Faults.{AtPlace}
use Rattle.lido_syntax.specs.declared.spec.Spec.{Spec}
use Rattle.lido_syntax.specs.declared.fault.SpecFault.{SpecFault}
use Rattle.lido_syntax.specs.declared.fault.SpecFault.TheVariants as fault
use Rattle.kind_clashes.specs.KindClash.{IsKindClash}
use Rattle.table_faults.specs.Faults.{IsUnknown, IsDuplicate, IsRootNotOne, IsBadIndex, IsDouble, IsBadOut}

abbrev pub name_faults : Spec → Environment → List (SpecFault → Type 0)
name_faults spec env = AtPlace (λ at. fault.UnknownSymbol at) (IsUnknown spec env) ∷ AtPlace (λ at. fault.DuplicateRule at) (IsDuplicate spec env) ∷ IsRootNotOne spec env ∷ []

abbrev pub kind_faults : Spec → Environment → List (SpecFault → Type 0)
kind_faults spec env = AtPlace (λ at. fault.KindClash at) (IsKindClash spec env) ∷ []

abbrev pub place_faults : Spec → Environment → List (SpecFault → Type 0)
place_faults spec env = AtPlace (λ at. fault.BadIndex at) (IsBadIndex spec env) ∷ AtPlace (λ at. fault.DoubleComputation at) (IsDouble spec env) ∷ AtPlace (λ at. fault.BadOut at) (IsBadOut spec env) ∷ []
