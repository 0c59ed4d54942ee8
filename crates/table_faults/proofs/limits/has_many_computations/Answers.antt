use Rattle.std.specs.Prelude.{sum_by}
use Rattle.std.proofs.Common.{subst, List}
use Rattle.lido_syntax.specs.declared.spec.RuleItem.{RuleItem}
use Rattle.lido_syntax.specs.declared.spec.SymbolItem.{SymbolItem}
use Rattle.table_faults.specs.Limits.{Counts, size_of}
use Rattle.table_faults.proofs.LimitsLemmas.{computations-more}
use Rattle.table_faults.proofs.limits.has_many_computations.Goals as goal

pub returns : goal.returns
returns c = computations-more c.args.spec.now c.in_ok-rules.rules c.in_ok-symbols.symbols _
    (subst (λ (rules : List RuleItem). Counts (sum_by (λ (r : RuleItem). sum_by size_of r.body) rules) c.in_ok-rules.rules) c.as_slice.ensures c.in_ok-rules.ensures)
    (subst (λ (items : List SymbolItem). Counts (sum_by (λ (item : SymbolItem). sum_by size_of item.body) items) c.in_ok-symbols.symbols) c.as_slice-2.ensures c.in_ok-symbols.ensures)
    c.saturating_add.ensures
