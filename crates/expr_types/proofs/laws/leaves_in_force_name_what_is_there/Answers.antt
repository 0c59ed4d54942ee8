use Rattle.lido_base.proofs.FaultsLemmas.{at_place-none}
use Rattle.lido_syntax.specs.declared.fault.SpecFault.TheVariants as fault
use Rattle.kind_clashes.specs.KindClash.{IsKindClash}
use Rattle.table_faults.specs.Faults.{IsUnknown}
use Rattle.expr_types.proofs.ThereLemmas.{origin, leaf-there}
use Rattle.expr_types.proofs.laws.leaves_in_force_name_what_is_there.Goals as goal

pub returns : goal.returns
returns c = λ spec env text none r k s goal h comp rule in_force leaf m.
    leaf-there spec env text
    (at_place-none (λ at. fault.UnknownSymbol at) (IsUnknown spec env) none.0)
    (at_place-none (λ at. fault.KindClash at) (IsKindClash spec env) none.1.1.1.0)
    r rule s comp h (origin spec r k s goal h comp in_force) leaf m
