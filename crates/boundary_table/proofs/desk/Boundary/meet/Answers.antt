use Rattle.std.proofs.Common.{arith, sym, ap, ◌∙◌}
use Rattle.boundary_table.proofs.Steps.{meets, learns}
use Rattle.boundary_table.proofs.desk.Boundary.meet.Goals as goal

pub join_seat-requires : goal.join_seat-requires
join_seat-requires c =
    let table = ap (λ h. h.table) c.stays.view_is ∙ (c.requires.stays ∙ sym c.self.view_is) in
    let table_other = ap (λ h. h.table) c.other.view_is ∙ (c.requires.other ∙ sym c.self.view_is) in
    (table, table_other, c.other.invariant.1, omega arith, meets _ _ _ _ _ c.stays.invariant.0 c.other.invariant.0)

pub load-requires : goal.load-requires
load-requires c =
    let table = ap (λ h. h.table) c.stays.view_is ∙ (c.requires.stays ∙ sym c.self.view_is) in
    let e = c.join_seat.ensures in
    (e.0 ∙ table, omega arith, learns _ _ _ _ _ (ap (λ m. m.0.stage) e.2 ∙ c.stays.invariant.0))
