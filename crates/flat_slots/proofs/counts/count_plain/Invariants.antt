use Rattle.std.proofs.Common.{◌≡◌, ◌≤◌, take}
use Rattle.flat_slots.specs.Entries.{plain_count}
use Rattle.flat_slots.proofs.counts.count_plain.Given as goal

-- the computations so far
abbrev pub invariant-loop-comp : goal.invariant-loop-comp
invariant-loop-comp l = record {
  count : l.count ≡ plain_count (take l.comp-index l.comps);
  few : l.count ≤ l.comp-index;
}
