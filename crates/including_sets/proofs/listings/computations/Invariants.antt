use Rattle.std.specs.Prelude.{filter}
use Rattle.std.proofs.Common.{◌≡◌, map, take}
use Rattle.including_sets.specs.Listings.{is_same_listing, computation_of}
use Rattle.including_sets.proofs.listings.computations.Given as goal

-- those so far
abbrev pub invariant-loop-other : goal.invariant-loop-other
invariant-loop-other l = l.numbers.items ≡ map computation_of (filter (λ other. is_same_listing l.one other) (take l.other-index l.listings))
