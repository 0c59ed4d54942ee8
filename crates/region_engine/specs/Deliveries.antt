-- What regions put, handed over to each of them.
use Rattle.std.specs.Prelude.{◌≡◌, ◌↔◌, ◌⊎◌, ℕ, ◌<◌, List, flat_map, length, slice_set, slice_index_or, Contains}
use Rattle.lido_base.specs.declared.value.Value.{Value}
use Rattle.core_machine.specs.Core.{Task}
use Rattle.region_engine.specs.declared.marks.Mark.TheVariants.{Delivered}
use Rattle.region_engine.specs.declared.values.Values.{Values}
use Rattle.region_engine.specs.declared.region.Region.{Region}
use Rattle.region_engine.specs.Regions.{number, WasDelivered, IsRegion}

-- the value of a key was delivered
pub record IsDeliveredTo (v w : Values) (key : ℕ) (x : Value) : Type 0 where
  pub region : w.region ≡ v.region
  pub begins : w.begins.items ≡ v.begins.items
  pub own : w.own.items ≡ v.own.items
  pub shared : w.shared.items ≡ slice_set v.shared.items key x
  pub marks : w.marks.items ≡ slice_set v.marks.items key Delivered

-- The region stands where it stood, with the desk that it had, and has these keys besides those that it had.
pub record IsGiven (more : List ℕ) (g h : Region) : Type 0 where
  pub number : number h ≡ number g
  pub position : h.position ≡ g.position
  pub since : h.since ≡ g.since
  pub numbered : h.numbered ≡ g.numbered
  pub desk : h.desk ≡ g.desk
  pub puts : h.puts.items ≡ g.puts.items
  pub keys : (key : ℕ) → WasDelivered h key ↔ (WasDelivered g key ⊎ Contains more key)

-- Each of these regions has the keys besides those that it had.
pub record AreGiven (keys : List ℕ) (before after : List Region) : Type 0 where
  pub count : length after ≡ length before
  pub each : (i : ℕ) (d : Region) → i < length before → IsGiven keys (slice_index_or before i d) (slice_index_or after i d)

-- what any of them put
abbrev pub all_puts : List Region → List ℕ
all_puts some = flat_map (λ (g : Region). g.puts.items) some

-- The region stands where it stood, with what was delivered to it.
pub record HasNewDesk (g h : Region) : Type 0 where
  pub number : number h ≡ number g
  pub position : h.position ≡ g.position
  pub puts : h.puts.items ≡ g.puts.items
  pub delivered : (key : ℕ) → WasDelivered g key ↔ WasDelivered h key

-- all are regions of the job
pub record AreRegions (j : Task) (some : List Region) : Type 0 where
  pub each : (i : ℕ) (d : Region) → i < length some → IsRegion j (slice_index_or some i d)
