use Rattle.std.proofs.Common.{◌≡◌, ◌≤◌, ◌<◌, ◌∷◌, [], ℕ, get_or}
use Rattle.region_engine.specs.declared.region.Region.{Region}
use Rattle.region_engine.specs.Regions.{IsRegion}
use Rattle.region_engine.specs.Deliveries.{IsGiven}
use Rattle.region_engine.proofs.handing.give_each.Given as goal

-- the regions so far have the key, and the others are as they were
abbrev pub invariant-loop-region : goal.invariant-loop-region
invariant-loop-region l = record {
  stand : (i : ℕ) (d : Region) → i < l.region-index → IsRegion l.job (get_or l.regions i d);
  given : (i : ℕ) (d : Region) → i < l.region-index → IsGiven (l.key ∷ []) (get_or l.initial.regions i d) (get_or l.regions i d);
  rest : (i : ℕ) (d : Region) → l.region-index ≤ i → get_or l.regions i d ≡ get_or l.initial.regions i d;
}
