-- Many keys, which four regions store in turn.
use Rattle.std.specs.Prelude.{◌≡◌, ℕ, ◌*◌, ◌%◌, List, [], ◌∷◌, map, pos}
use Rattle.std.specs.List.{range_with_len}
use Rattle.boundary_table.specs.Desk.{Which, Held, desk_of}
use Rattle.lido_base.specs.declared.value.Value.{Value}
use Rattle.lido_base.specs.declared.value.Value.TheVariants.{Int}
use Rattle.trials_of_boundaries.specs.declared.rows.Worker.{Worker}

-- Both halves of the value of a key tell the key.
abbrev pub value_at : ℕ → Value
value_at k = Int (pos (k * 4294967297))

abbrev pub contents_of : ℕ → List Value
contents_of n = map value_at (range_with_len 0 n)

abbrev pub region_of : ℕ → ℕ
region_of k = k % 4

abbrev pub owners_of : ℕ → List ℕ
owners_of n = map region_of (range_with_len 0 n)

-- A desk of a table of n keys.
pub record IsDesk (t : Which) (n : ℕ) (d : Held) : Type 0 where
  pub table : d.table ≡ t
  pub contents : d.view.contents ≡ contents_of n
  pub owners : d.view.owners ≡ owners_of n

-- A desk as the table gave it.
abbrev pub IsUnused : Which → ℕ → Held → Type 0
IsUnused t n d = d ≡ desk_of t (contents_of n) (owners_of n)

-- A worker whose desk has its region's number.
pub record IsReady (t : Which) (n : ℕ) (w : Worker) : Type 0 where
  pub desk : IsDesk t n w.desk
  pub numbers : w.desk.view.numbers ≡ w.region ∷ []
