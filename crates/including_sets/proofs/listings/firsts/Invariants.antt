use Rattle.std.specs.Prelude.{drop}
use Rattle.std.proofs.Common.{◌≡◌, ◌++◌, []}
use Rattle.including_sets.specs.Firsts.{firsts}
use Rattle.including_sets.specs.Listings.{is_same_listing}
use Rattle.including_sets.proofs.listings.firsts.Given as goal

-- those so far, and those that will follow
abbrev pub invariant-loop-one : goal.invariant-loop-one
invariant-loop-one l = l.kept.items ++ firsts is_same_listing l.kept.items (drop l.one-index l.listings) ≡ firsts is_same_listing [] l.listings
