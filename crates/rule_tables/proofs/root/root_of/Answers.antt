use Rattle.std.proofs.Common.{◌≡◌, List, ap, sym, subst, ◌∙◌, true≢false, length, get_or, ◌<◌}
use Rattle.std.proofs.lemmas.List.{take_all}
use Rattle.lido_syntax.specs.declared.spec.RuleItem.{RuleItem}
use Rattle.lido_syntax.specs.Production.{left_of}
use Rattle.rule_tables.proofs.RootLemmas.{AreBelow, no-root, nonterminal-at}
use Rattle.rule_tables.proofs.root.root_of.Goals as goal

pub returns-then-not-has : goal.returns-then-not-has
returns-then-not-has c spec e sets =
    let rules = c.args.rules.now in
    let rule = c.rule-item.result in
    let i = c.loop-rule.rule-index in
    let none = sym c.has.ensures ∙ c.if-not-has.true in
    let below = subst (λ (l : List RuleItem). i < length l) (sym e) c.loop-rule-test.true in
    let at : rule ≡ get_or spec.rules i rule = c.rule-item.is ∙ ap (λ l. get_or l i rule) (sym e) in
    (left_of rule, (nonterminal-at spec i rule below at, λ on. true≢false (sym (sets.right_sides.all (left_of rule) on) ∙ none)), c.symbol_id.ensures)

pub returns : goal.returns
returns c spec e sets =
    no-root spec (subst (AreBelow spec) (take_all c.loop-rule.rule-index c.args.rules.now c.loop-rule-test.false ∙ sym e) (c.loop-rule.invariant spec e sets))
