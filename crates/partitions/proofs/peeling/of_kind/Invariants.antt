use Rattle.flat_grammar.specs.Partition.{HasKind}
use Rattle.partitions.proofs.PeelingLemmas.{IsFound}
use Rattle.partitions.proofs.peeling.of_kind.Given as goal

-- the set has the attributes of the kind so far
abbrev pub invariant-loop-a : goal.invariant-loop-a
invariant-loop-a l = IsFound (λ j. HasKind l.flat.symbols l.fn.x l.fn.kind (record { 0 = j })) l.a l.set
