use Rattle.std.proofs.Common.{arith, sym, ◌∙◌, ap}
use Rattle.boundary_table.proofs.Steps.{parts}
use Rattle.boundary_table.proofs.desk.Boundary.copy.Goals as goal

pub split_seat-seat-requires : goal.split_seat-seat-requires
split_seat-seat-requires c =
    let table = ap (λ h. h.table) c.desk.view_is ∙ (c.requires.table ∙ sym c.self.view_is) in
    let words = ap (λ t. t.words) table in
    let numbers = ap (λ h. h.view.numbers) c.desk.view_is ∙ c.requires.none_yet in
    (table, omega arith, parts _ _ _ c.desk.invariant.0 numbers)
