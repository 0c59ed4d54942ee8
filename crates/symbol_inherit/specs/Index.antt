-- The index of computations by what they give values to.
use Rattle.std.specs.Prelude.{◌≡◌, ℕ, List, Option, Some, Contains}
use Rattle.std.specs.HashMap as table
use Rattle.computation_aims.specs.Keys.{key, is_same_key}
use Rattle.computation_aims.specs.declared.aims.Aim.{Aim}
use Rattle.symbol_inherit.specs.declared.notes.Own.{Own}
use Rattle.symbol_inherit.specs.declared.notes.Note.{Note}
use Rattle.symbol_inherit.specs.declared.index.Index.{Index}

-- what the index has for an aim
unfoldable pub noted : Index → ℕ → Aim → Option Own
noted index place aim = table.get is_same_key index.owns (key place aim)

-- The index has a computation of each aim that is noted, and no other.
pub record Holds (notes : List Note) (index : Index) : Type 0 where
  pub each : (place : ℕ) (aim : Aim) (own : Own) → noted index place aim ≡ Some own → Contains notes (record { place = place; aim = aim; own = own })
  pub all : (note : Note) → Contains notes note → (own : Own) × (noted index note.place note.aim ≡ Some own)
