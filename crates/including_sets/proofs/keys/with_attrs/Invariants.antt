use Rattle.std.specs.List.{AllZip}
use Rattle.std.proofs.Common.{◌≡◌, List, map, take}
use Rattle.including_sets.specs.declared.uses.Use.{Use}
use Rattle.including_sets.specs.declared.listings.ListedAttr.{ListedAttr}
use Rattle.including_sets.specs.Keys.{IsListing}
use Rattle.including_sets.proofs.keys.with_attrs.Given as goal

-- those so far
abbrev pub invariant-loop-k : goal.invariant-loop-k
invariant-loop-k l = (f : Use → List ListedAttr) → l.attrs ≡ map f l.uses → AllZip (IsListing f) (take l.k l.uses) l.all.items
