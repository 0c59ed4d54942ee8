use Rattle.std.proofs.Common.{inl, refl, arith, ap, subst, map, List, ◌∙◌}
use Rattle.std.specs.Borrow.{Bor}
use Rattle.lido_syntax.specs.declared.spec.Expr.{Expr}
use Rattle.table_faults.specs.Limits.{Counts, constituents_in}
use Rattle.table_faults.proofs.LimitsLemmas.{counts-add}
use Rattle.table_faults.proofs.limits.comp_size.Goals as goal

pub returns : goal.returns
returns c =
    let found = c.constituents_count.ensures ∙ ap (λ (l : List (Bor Expr)). constituents_in (map (λ (e : Bor Expr). e.now) l)) c.deref.ensures.value ∙ ap constituents_in c.in_ok-all.ensures in
    subst (λ n. Counts n c.saturating_add.result) (omega arith) (counts-add _ _ _ _ _ (inl found) (inl refl) c.saturating_add.ensures)
