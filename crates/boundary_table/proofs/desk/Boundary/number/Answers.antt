use Rattle.std.proofs.Common.{◌≡◌, ◌+◌, ◌-◌, ℕ, eqb, arith, sym, subst, ap, ◌∙◌}
use mathlib.Core.Option.{none}
use prog.Atomic.{either}
use Rattle.atomic_table.specs.Table.{Allows, step}
use Rattle.boundary_table.specs.Rule.{Kept, drawn}
use Rattle.boundary_table.proofs.Steps.{draws}
use Rattle.boundary_table.proofs.desk.Boundary.number.Goals as goal

pub compare_exchange-found-requires : goal.compare_exchange-found-requires
compare_exchange-found-requires c =
    let inside = c.desk.inside.seat in
    let shared = c.self.inside.table.shared in
    let table = ap (λ h. h.table) c.desk.view_is ∙ (c.requires.table ∙ sym c.self.view_is) in
    let numbers = ap (λ h. h.view.numbers) c.desk.view_is ∙ c.requires.none_yet in
    let A : ℕ → Type 0 = λ w. Allows (Kept shared.key) shared.table_id.slots inside.id inside.me w (λ x. either (eqb x c.from-wanted.result) (c.from-wanted.result + 1) x) (drawn (step shared.table_id.slots w c.from-wanted.result (c.from-wanted.result + 1) none) inside.me) in
    let counter : shared.key ≡ c.word_count-counter.result - 1 = omega arith in
    (table, omega arith, subst A counter (draws _ _ _ _ _ c.desk.invariant.0 numbers))
