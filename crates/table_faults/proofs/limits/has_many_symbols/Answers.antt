use Rattle.std.specs.Prelude.{filter, map}
use Rattle.std.proofs.Common.{ap, List, length, ℕ, ◌∙◌}
use Rattle.lido_syntax.specs.declared.spec.Name.{Name}
use Rattle.lido_syntax.specs.declared.spec.RuleItem.{RuleItem}
use Rattle.lido_syntax.specs.Production.{name_of}
use Rattle.lido_symbols.specs.Numbers.{different}
use Rattle.table_faults.proofs.LimitsLemmas.{symbols-more}
use Rattle.table_faults.proofs.limits.has_many_symbols.Goals as goal

pub returns : goal.returns
returns c = λ env texts. symbols-more c.args.spec.now env c.in_ok-names.names.items c.len.result c.list_count-lists.result _ (c.in_ok-names.ensures env texts)
    (c.len.ensures ∙ ap (λ (l : List ℕ). length l) c.in_ok-symbols.ensures ∙ ap (λ (names : List Name). length (different (map name_of names))) c.deref.ensures.value)
    (c.list_count-lists.ensures ∙ ap (λ (rules : List RuleItem). length (filter (λ (r : RuleItem). r.list) rules)) c.as_slice.ensures)
    c.saturating_add.ensures
