-- The table of attributes: for each symbol and cell its attributes in order.
use Rattle.std.specs.Prelude.{ℕ, nat_eq, if◌then◌else◌, List, [], map, filter_map, Option, Some, None, slice_get, unwrap_or}
use Rattle.lido_base.specs.Environment.{Environment}
use Rattle.indexmap.specs.IndexSet.{insert_all}
use Rattle.rule_tables.specs.declared.extra.Extra.{Extra}
use Rattle.rule_tables.specs.declared.forced.Forced.{Forced}
use Rattle.rule_tables.specs.ForcedOf.{AreForcedOf, AreNumbersOf}
use Rattle.rule_tables.specs.Needs.{Tables, Needs}
use Rattle.rule_tables.specs.Shares.{IncludingShare, ConstituentsShare, ChainShare}
use Rattle.rule_tables.specs.Slots.{Slot, AreSlots}
use Rattle.rule_tables.specs.ExtraOf.{IsExtra, IsOfIncluding, IsOfConstituents, IsOfChains}
use Rattle.need_graphs.specs.Clear.{AreClear}
use Rattle.flat_slots.specs.declared.slot.Slot.{Slot as Named}
use Rattle.flat_slots.specs.declared.entries.Entry.{Entry}
use Rattle.flat_slots.specs.declared.table.SlotTable.{SlotTable}
use Rattle.flat_slots.specs.Named.{slot_of, same}

-- the attributes of that symbol
abbrev pub slot_at : ℕ → Entry → Option Named
slot_at x e = if nat_eq e.sym x then Some e.slot else None

abbrev pub own_slots : ℕ → List Entry → List Named
own_slots x entries = filter_map (slot_at x) entries

-- the row of a symbol, and that which holds these attributes, each once
abbrev pub row_at : List (List Named) → ℕ → List Named
row_at rows x = unwrap_or (slice_get rows x) []

abbrev pub row_of : ℕ → List Entry → List Named
row_of x entries = insert_all same [] (own_slots x entries)

-- the attributes of a symbol or cell, as the definition names them
abbrev pub slots_in : SlotTable → ℕ → List Slot
slots_in table x = map slot_of (row_at table.rows x)

-- the attributes are those that the specification gives each symbol and cell
abbrev pub AreSlotsOf : Forced → Extra → Extra → Extra → SlotTable → Type 0
AreSlotsOf forced including constituents chains table = (env : Environment) (T : Tables forced.tables.spec) (needs : Needs forced.tables.spec T) → AreForcedOf env forced → AreNumbersOf env forced T
    → AreClear forced.tables.spec
    → IsExtra forced.tables T needs IsOfIncluding (IncludingShare forced.tables.spec T needs) including
    → IsExtra forced.tables T needs IsOfConstituents (ConstituentsShare forced.tables.spec T needs) constituents
    → IsExtra forced.tables T needs IsOfChains (ChainShare forced.tables.spec T needs) chains
    → AreSlots forced.tables.spec T needs (slots_in table)
