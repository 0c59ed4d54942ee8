use Rattle.std.proofs.Common.{◌≡◌, ◌⊎◌, subst, sym}
use Rattle.std.specs.Prelude.{slice_index_or, ◌↔◌}
use Rattle.induced_deps.specs.declared.row.Row.{Row}
use Rattle.induced_deps.specs.Rows.{IsIn, no_row}
use Rattle.induced_deps.proofs.ClosureLemmas.{join_gains, row_read}
use Rattle.induced_deps.proofs.closure.Closure.add.Goals as goal

pub returns-clause-edges : goal.returns-clause-edges
returns-clause-edges c =
    let same : slice_index_or c.args.self.now.rows.items c.args.from no_row ≡ c.index_mut.result.now = row_read c.args.self.now.rows.items c.args.from c.index_mut.result.now c.index_mut.result.now c.requires c.index_mut.ensures.value in
    join_gains c.args.self.now.rows.items c.args.from c.args.set.now.words c.join.new.self c.requires
    (λ j. subst (λ (r : Row). IsIn c.join.new.self.words j ↔ (IsIn r.words j ⊎ IsIn c.args.set.now.words j)) (sym same) (c.join.ensures.members j))
