use Rattle.std.specs.Prelude.{slice_get, length}
use Rattle.std.proofs.Common.{◌≤◌, ◌<◌, ap, sym, subst, ◌∙◌}
use Rattle.std.proofs.lemmas.Option.{same_Some}
use Rattle.rule_tables.specs.PlainRules.{PlainRule}
use Rattle.type_checks.proofs.WrittenLemmas.{front-written}
use Rattle.type_checks.proofs.EntryLemmas.{flat-below}
use Rattle.type_checks.proofs.BehindLemmas.{enough-left, number-there, number-below, rule-below}
use Rattle.type_checks.proofs.written.written_rule.Goals as goal

pub returns-then-j-rules : goal.returns-then-j-rules
returns-then-j-rules c = front-written c.args.tables.now c.args.j c.rule_at.result.now (ap (λ rules. slice_get rules c.args.j) (sym c.as_slice-rules.ensures) ∙ c.rule_at.ensures)

pub plain_rule-plain-requires : goal.plain_rule-plain-requires
plain_rule-plain-requires c = flat-below c.args.tables.now c.requires.tables.0 c.requires.tables.1 c.args.j c.requires.there.0 c.requires.there.1

pub overflow_sub-plain : goal.overflow_sub-plain
overflow_sub-plain c =
    enough-left c.args.tables.now c.requires.tables.0 c.requires.tables.1 c.args.numbers.now c.requires.numbers c.args.j c.requires.there.0 c.requires.there.1
    (subst (λ rules. length rules ≤ c.args.j) c.as_slice-rules.ensures c.if-j-rules.false) c.plain_rule-plain.result.now c.plain_rule-plain.ensures c.len.result c.len.ensures

pub number_at-number-requires : goal.number_at-number-requires
number_at-number-requires c =
    number-below c.args.tables.now c.requires.tables.0 c.requires.tables.1 c.args.numbers.now c.requires.numbers c.args.j c.requires.there.0 c.requires.there.1
    (subst (λ rules. length rules ≤ c.args.j) c.as_slice-rules.ensures c.if-j-rules.false) c.plain_rule-plain.result.now c.plain_rule-plain.ensures c.len.result c.len.ensures

pub rule_at-requires-2 : goal.rule_at-requires-2
rule_at-requires-2 c =
    subst (λ rules. c.number_at-number.result < length rules) (sym c.as_slice-rules.ensures)
    (rule-below c.args.tables.now c.requires.tables.0 c.requires.tables.1 c.args.numbers.now c.requires.numbers c.args.j c.requires.there.0 c.requires.there.1
    (subst (λ rules. length rules ≤ c.args.j) c.as_slice-rules.ensures c.if-j-rules.false) c.plain_rule-plain.result.now c.plain_rule-plain.ensures c.len.result c.len.ensures
    c.number_at-number.result c.number_at-number.ensures)

pub returns : goal.returns
returns c = λ q e.
    let p = c.requires.there.0 in
    let there = number-there c.args.tables.now c.requires.tables.0 c.requires.tables.1 c.args.numbers.now c.requires.numbers c.args.j c.requires.there.0 c.requires.there.1
    (subst (λ rules. length rules ≤ c.args.j) c.as_slice-rules.ensures c.if-j-rules.false) c.plain_rule-plain.result.now c.plain_rule-plain.ensures c.len.result c.len.ensures in
    ap (λ (z : PlainRule). slice_get c.args.tables.now.spec.rules z.rule) (same_Some q p (sym e ∙ c.requires.there.1))
    ∙ ap (slice_get c.args.tables.now.spec.rules) (same_Some p.rule c.number_at-number.result (sym there ∙ c.number_at-number.ensures))
    ∙ ap (λ rules. slice_get rules c.number_at-number.result) (sym c.as_slice-rules.ensures)
    ∙ c.rule_at-2.ensures
