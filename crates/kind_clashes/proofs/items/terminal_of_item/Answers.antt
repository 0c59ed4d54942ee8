use Rattle.kind_clashes.specs.Items.{IsBrought}
use Rattle.kind_clashes.specs.Least.{IsFirst}
use Rattle.kind_clashes.proofs.LeastLemmas.{first-at, first-if, first-none}
use Rattle.kind_clashes.proofs.items.terminal_of_item.Goals as goal

pub returns-in-Some : goal.returns-in-Some
returns-in-Some c =
    let first : IsFirst (IsBrought c.args.sets.now c.args.bearers.now c.args.item.now) c.in_ok-brought.field-0 = c.in_ok-brought.ensures in
    first-if (c.in-Some.field-0, (first.some c.in-Some.field-0 c.in-Some.is).there) (first-at c.as_slice.ensures c.least_terminal_name.ensures)

pub returns-in-None : goal.returns-in-None
returns-in-None c =
    let first : IsFirst (IsBrought c.args.sets.now c.args.bearers.now c.args.item.now) c.in_ok-brought.field-0 = c.in_ok-brought.ensures in
    first-none (λ at h. first.none c.in-None.is h.0.0 h.0.1)
