use Rattle.std.proofs.Common.{◌≡◌, ◌+◌, ap, sym, subst, ◌∙◌, length, take, slice_get, Some, if◌then◌else◌, add_assoc, arith, ◌≤◌}
use Rattle.std.specs.List.{AllZip}
use Rattle.std.proofs.lemmas.List.{take_all}
use Rattle.std.proofs.lemmas.Option.{slice_get-get_or}
use Rattle.lido_symbols.specs.Numbers.{enumerated}
use Rattle.rule_tables.specs.PlainRules.{written_rule}
use Rattle.rule_tables.specs.TablesOf.{IsPlainOf}
use Rattle.rule_tables.proofs.PlainLemmas.{zip-more, zip-map, cell_at, list_count, is_list, take_count}
use Rattle.lido_syntax.specs.declared.spec.RuleItem.{RuleItem as Rule}
use Rattle.std.proofs.lemmas.List.Filters.{length-filter_more}
use Rattle.rule_tables.proofs.written.written_rules.Goals as goal

pub loop-rule-preserved : goal.loop-rule-preserved
loop-rule-preserved c =
    let rules = c.args.rules.now in
    let symbols = c.args.symbols.now in
    let i = c.loop-rule.rule-index in
    let rule = c.rule-item.result in
    record {
      cell =
          c.next_cell-cell.ensures ∙ ap (λ n. n + (if rule.list then 1 else 0)) c.loop-rule.invariant.cell
          ∙ add_assoc (length symbols) (list_count (take i rules)) (if rule.list then 1 else 0)
          ∙ ap (λ n. length symbols + n) (ap (λ (r : Rule). list_count (take i rules) + (if r.list then 1 else 0)) c.rule-item.is ∙ sym (length-filter_more is_list rules i rule c.loop-rule-test.true));
      plain = λ spec env e.
          let IsPlain : _ = λ x flat. IsPlainOf spec env symbols (written_rule spec symbols x) flat in
          let there : slice_get rules i ≡ Some rule = slice_get-get_or rules i rule c.loop-rule-test.true ∙ ap Some (sym c.rule-item.is) in
          let in_spec : slice_get spec.rules i ≡ Some rule = ap (λ l. slice_get l i) e ∙ there in
          let one = c.in_ok-flat.ensures spec env i in_spec (λ l. c.loop-rule.invariant.cell ∙ ap (λ r. length symbols + list_count (take i r)) (sym e) ∙ cell_at spec symbols i rule in_spec l) in
          subst (AllZip IsPlain (enumerated 0 (take (i + 1) rules))) (sym c.in_ok-push.ensures.items)
          (zip-more IsPlain rules i rule rule c.loop-rule.plain.items c.in_ok-flat.flat c.loop-rule-test.true c.rule-item.is one (c.loop-rule.invariant.plain spec env e));
    }

pub returns : goal.returns
returns c spec env e =
    let rules = c.args.rules.now in
    let symbols = c.args.symbols.now in
    zip-map (IsPlainOf spec env symbols) (written_rule spec symbols) (enumerated 0 rules) c.loop-rule.plain.items
    (subst (λ l. AllZip (λ x flat. IsPlainOf spec env symbols (written_rule spec symbols x) flat) (enumerated 0 l) c.loop-rule.plain.items) (take_all c.loop-rule.rule-index rules c.loop-rule-test.false) (c.loop-rule.invariant.plain spec env e))

pub overflow_cast-cell : goal.overflow_cast-cell
overflow_cast-cell c =
    let fewer : list_count (take c.loop-rule.rule-index c.args.rules.now) ≤ list_count c.args.rules.now = take_count c.loop-rule.rule-index c.args.rules.now in
    omega (arith, c.loop-rule.invariant.cell, c.requires, fewer)

pub next_cell-cell-requires : goal.next_cell-cell-requires
next_cell-cell-requires c =
    let fewer : list_count (take c.loop-rule.rule-index c.args.rules.now) ≤ list_count c.args.rules.now = take_count c.loop-rule.rule-index c.args.rules.now in
    omega (arith, c.loop-rule.invariant.cell, c.requires, fewer)
