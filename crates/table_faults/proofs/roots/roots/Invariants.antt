use Rattle.std.specs.Prelude.{Contains, length, ◌≤◌}
use Rattle.kind_clashes.specs.Names.{IsSetOf}
use Rattle.table_faults.proofs.RootsLemmas.{AreRootsFirst}
use Rattle.table_faults.proofs.roots.roots.Given as goal

-- those of the rules so far, and the set of them
abbrev pub invariant-loop-rule : goal.invariant-loop-rule
invariant-loop-rule l = record {
  set : IsSetOf (λ s. Contains l.names.items s) l.seen;
  roots : AreRootsFirst l.sets l.rules l.rule-index l.names.items;
  few : length l.names.items ≤ l.rule-index;
}
