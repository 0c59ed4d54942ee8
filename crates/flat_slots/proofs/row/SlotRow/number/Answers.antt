use Rattle.std.proofs.Common.{◌∙◌, sym}
use Rattle.lido_symbols.proofs.PlacesLemmas.{place_found, place_missed}
use Rattle.flat_slots.specs.Named.{same}
use Rattle.flat_slots.proofs.RowLemmas.{place-map}
use Rattle.flat_slots.proofs.row.SlotRow.number.Goals as goal

pub returns-in-Some-clause-number : goal.returns-in-Some-clause-number
returns-in-Some-clause-number c = place_found (same c.args.slot) c.args.self.now c.in-Some.place (sym c.in-Some.ensures) ∙ place-map c.args.slot c.args.self.now

pub returns-in-None-clause-number : goal.returns-in-None-clause-number
returns-in-None-clause-number c = c.len.ensures ∙ place_missed (same c.args.slot) c.args.self.now (sym c.in-None.ensures) ∙ place-map c.args.slot c.args.self.now
