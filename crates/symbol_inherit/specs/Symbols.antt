-- What symbols compute in their own bodies, as an index has it.
use Rattle.std.specs.Prelude.{◌≡◌, ℕ, Some, slice_get}
use Rattle.lido_syntax.specs.declared.spec.Comp.{Comp}
use Rattle.lido_syntax.specs.Computation.{InSymbol}
use Rattle.rule_tables.specs.declared.table.Tables.{Tables}
use Rattle.rule_tables.specs.TablesOf.{named_symbols}
use Rattle.computation_aims.specs.Aims.{goal_of}
use Rattle.symbol_inherit.specs.Notes.{own_of}
use Rattle.symbol_inherit.specs.Index.{noted}
use Rattle.computation_aims.specs.declared.aims.Aim.{Aim}
use Rattle.symbol_inherit.specs.declared.notes.Own.{Own}
use Rattle.symbol_inherit.specs.declared.index.Index.{Index}

-- the symbol of this number computes the aim in its own bodies, by this computation
abbrev pub IsOwn : Tables → ℕ → Aim → Own → Type 0
IsOwn t x aim own = (s : ℕ) × (c : Comp) × (slice_get (named_symbols t) x ≡ Some s) × InSymbol t.spec s (goal_of aim) c × (own_of c ≡ own)

-- the index has a computation of each symbol's own aims, and no other
pub record HasOwn (t : Tables) (index : Index) : Type 0 where
  pub each : (x : ℕ) (aim : Aim) (own : Own) → noted index x aim ≡ Some own → IsOwn t x aim own
  pub all : (x : ℕ) (aim : Aim) (own : Own) → IsOwn t x aim own → (other : Own) × (noted index x aim ≡ Some other)
