-- Why there are no visits.
use Rattle.std.specs.Prelude.{List}
use Rattle.flat_grammar.specs.declared.flat.FlatSymbol.{FlatSymbol}
use Rattle.flat_grammar.specs.declared.flat.FlatRule.{FlatRule}
use Rattle.flat_grammar.specs.Cycles.{IsCircular}
use Rattle.partitions.specs.declared.parts.PartFault.{PartFault}
use Rattle.partitions.specs.declared.parts.PartFault.TheVariants.{Circular, Memory}

-- the fault's cycle is one of the first rule that has one
abbrev pub HasCycle : List FlatSymbol → List FlatRule → PartFault → Type 0
HasCycle symbols rules (Circular cycle) = IsCircular symbols rules cycle.rule.0 cycle.steps
HasCycle symbols rules Memory = Unit {0}
