use Rattle.std.proofs.Common.{◌≡◌, ◌≤◌, ◌∙◌, ap, sym, subst, refl, length, List, Some}
use Rattle.std.specs.Prelude.{slice_get}
use Rattle.std.proofs.lemmas.Option.{slice_get_read}
use Rattle.lido_base.specs.declared.ids.SymId.{SymId}
use Rattle.lido_syntax.specs.declared.spec.RuleItem.{RuleItem}
use Rattle.symbol_inherit.specs.Entries.{IsRuleWith}
use Rattle.symbol_inherit.specs.CellRules.{IsCellRule}
use Rattle.symbol_inherit.proofs.PlainOfLemmas.{rule-with, cell-rule}
use Rattle.symbol_inherit.proofs.rule_entries.plain_entries.Goals as goal

pub returns-in_ok-entries-in-Some : goal.returns-in_ok-entries-in-Some
returns-in_ok-entries-in-Some c = λ env p known are at there.
    let t = c.args.tables.now in
    let got = c.in-Some.ensures.lookup in
    let of : slice_get t.spec.rules c.args.k ≡ Some c.in-Some.rule.now = ap (λ (l : List RuleItem). slice_get l c.args.k) (sym c.as_slice.ensures)
    ∙ slice_get_read c.as_slice.result.now (length c.as_slice.result.now) c.args.k c.in-Some.rule.now refl got.3.0 got.1 in
    c.in_ok-entries-in-Some.ensures env p known are
    (subst (λ (l : List SymId). IsRuleWith t p c.in-Some.rule.now c.args.flat.now.left l) (sym c.goal_side-right.ensures) (rule-with t env known.tables c.args.k p at c.args.flat.now there c.in-Some.rule.now of))

pub returns-in_ok-entries-in-None : goal.returns-in_ok-entries-in-None
returns-in_ok-entries-in-None c = λ env p known are at there.
    let t = c.args.tables.now in
    let past : length t.spec.rules ≤ c.args.k = subst (λ (l : List RuleItem). length l ≤ c.args.k) c.as_slice.ensures c.in-None.ensures.lookup.3 in
    c.in_ok-entries-in-None.ensures env p known
    (subst (λ (l : List SymId). IsCellRule t p l) (sym c.as_slice-in-None.ensures) (cell-rule t env known.tables c.args.k p at c.args.flat.now there past))
