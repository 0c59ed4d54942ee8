use Rattle.std.specs.Prelude.{◌<◌, length}
use Rattle.std.proofs.Common.{arith}
use Rattle.lido_base.specs.declared.kinds.Many.TheVariants as many
use Rattle.lido_base.proofs.FaultsLemmas.{none-at_place}
use Rattle.lido_syntax.specs.declared.fault.SpecFault.TheVariants as fault
use Rattle.lido_syntax.specs.Production.{right_of}
use Rattle.kind_clashes.specs.KindClash.{IsKindClash}
use Rattle.table_faults.specs.Faults.{IsUnknown, IsDuplicate, IsBadIndex, IsDouble, IsBadOut, IsTooMany, symbols, rules, elements, computations_and_constituents}
use Rattle.trials_of_tables.specs.CountedItems.{spec, env}
use Rattle.trials_of_tables.proofs.NoFaultLemmas.{each_rule, no_unknown, no_bad_index, no_duplicate, one_root_alone, no_double, no_bad_out}
use Rattle.trials_of_tables.proofs.NoClashLemmas.{no_clash}
use Rattle.trials_of_tables.proofs.counted_items.without_faults.Goals as goal

few_symbols : IsTooMany spec env many.Symbols → ⊥
few_symbols (symbols h) = omega (arith, h)

few_rules : IsTooMany spec env many.Rules → ⊥
few_rules (rules h) = omega (arith, h)

few_elements : IsTooMany spec env many.Elements → ⊥
few_elements (elements r m h) = each_rule (λ r. 1024 < length (right_of r) → ⊥) (λ h. omega (arith, h)) (λ h. omega (arith, h)) r m h

few_computations : IsTooMany spec env many.Computations → ⊥
few_computations (computations_and_constituents h) = omega (arith, h)

pub returns : goal.returns
returns c = (none-at_place (λ at. fault.UnknownSymbol at) (IsUnknown spec env) no_unknown, (none-at_place (λ at. fault.DuplicateRule at) (IsDuplicate spec env) no_duplicate, (one_root_alone, (none-at_place (λ at. fault.KindClash at) (IsKindClash spec env) no_clash, (none-at_place (λ at. fault.BadIndex at) (IsBadIndex spec env) no_bad_index, (none-at_place (λ at. fault.DoubleComputation at) (IsDouble spec env) no_double, (none-at_place (λ at. fault.BadOut at) (IsBadOut spec env) no_bad_out, ((λ f h. few_symbols h.0), ((λ f h. few_rules h.0), ((λ f h. few_elements h.0), ((λ f h. few_computations h.0), tt)))))))))))
