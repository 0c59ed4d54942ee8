use Rattle.std.proofs.Common.{List, length, ◌≤◌, subst}
use Rattle.induced_deps.specs.declared.row.Row.{Row}
use Rattle.induced_deps.proofs.ClosureLemmas.{no_row_past}
use Rattle.induced_deps.proofs.closure.Closure.row_of.Goals as goal

pub returns-in-None : goal.returns-in-None
returns-in-None c =
    let past : length c.args.self.now.rows.items ≤ c.args.v = subst (λ (rows : List Row). length rows ≤ c.args.v) c.deref.ensures.value c.in-None.ensures.lookup.3 in
    λ w. (λ h. absurd (c.new.ensures w h), λ h. absurd (no_row_past c.args.self.now.rows.items c.args.v w past h))
