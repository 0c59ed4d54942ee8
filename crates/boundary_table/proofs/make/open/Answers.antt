use Rattle.std.proofs.Common.{arith, sym, ap, subst}
use Rattle.atomic_table.specs.Table.{Splits}
use Rattle.boundary_table.specs.declared.plays.View.{View}
use Rattle.boundary_table.specs.Rule.{Kept, opened, spent}
use Rattle.boundary_table.proofs.Steps.{opens}
use Rattle.boundary_table.proofs.make.open.Goals as goal

pub split_seat-requires : goal.split_seat-requires
split_seat-requires g c =
    let F : View → Type 0 = λ v. Splits (Kept c.args.table.now.shared.key) c.args.seat.now.id v spent (opened g.J.Choice.chosen g.J.Choice.owners) in
    (c.requires.seat.0, omega arith, subst F (sym (ap (λ m. m.0) c.requires.seat.1)) (opens _ _ _ _ c.requires.keys))
