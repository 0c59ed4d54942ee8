use Rattle.std.proofs.Common.{◌∙◌, ℕ, ◌<◌, List, length, ap, sym, subst}
use Rattle.flat_slots.specs.declared.slot.Slot.{Slot}
use Rattle.flat_slots.specs.declared.table.SlotTable.{SlotTable}
use Rattle.flat_slots.specs.Entries.{most_of}
use Rattle.flat_slots.specs.Slots.{row_at, row_of}
use Rattle.flat_slots.proofs.SlotsLemmas.{slots-of}
use Rattle.flat_slots.proofs.table.slot_table.Goals as goal

pub returns : goal.returns
returns c =
    let table : SlotTable = record { rows = c.from_vec.result } in
    λ env T needs are numbers clear of_including of_constituents of_chains.
    slots-of env c.args.forced.now are T numbers clear needs c.args.including.now c.args.constituents.now c.args.chains.now of_including of_constituents of_chains
    c.in_ok-counts.counts (λ s. c.in_ok-counts.ensures s ∙ ap (most_of s) c.as_slice.ensures)
    table (ap length c.from_vec.ensures ∙ c.in_ok-rows.ensures.count ∙ c.len.ensures)
    (λ x below. ap (λ (l : List (List Slot)). row_at l x) c.from_vec.ensures ∙ c.in_ok-rows.ensures.rows x (subst (λ (n : ℕ). x < n) (sym c.len.ensures) below) ∙ ap (row_of x) (c.deref.ensures.value ∙ c.in_ok-entries.ensures))
