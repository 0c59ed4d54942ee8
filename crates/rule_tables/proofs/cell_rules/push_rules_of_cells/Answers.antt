use Rattle.std.proofs.Common.{◌≡◌, ◌+◌, ap, sym, subst, ◌∙◌, length, take, slice_get, Some, if◌then◌else◌, add_assoc, arith, ◌≤◌}
use Rattle.std.specs.List.{flat_map}
use Rattle.std.proofs.lemmas.Option.{slice_get-get_or}
use Rattle.std.proofs.lemmas.List.Filters.{length-filter_more}
use Rattle.lido_syntax.specs.declared.spec.RuleItem.{RuleItem as Rule}
use Rattle.lido_symbols.specs.Numbers.{enumerated}
use Rattle.rule_tables.specs.CellRules.{AddsPlain}
use Rattle.rule_tables.specs.PlainRules.{cell_rules as rules_of_cell}
use Rattle.rule_tables.proofs.PlainLemmas.{cell_at, list_count, is_list, take_count}
use Rattle.rule_tables.proofs.LaterTexts.{more-again}
use Rattle.rule_tables.proofs.CellLemmas.{called-there, right-there, flat-more, adds-then}
use Rattle.rule_tables.proofs.cell_rules.push_rules_of_cells.Goals as goal

pub overflow_cast-cell : goal.overflow_cast-cell
overflow_cast-cell c =
    let fewer : list_count (take c.loop-rule.rule-index c.args.rules.now) ≤ list_count c.args.rules.now = take_count c.loop-rule.rule-index c.args.rules.now in
    omega (arith, c.loop-rule.invariant.cell, c.requires.few, fewer)

pub next_cell-cell-requires : goal.next_cell-cell-requires
next_cell-cell-requires c =
    let fewer : list_count (take c.loop-rule.rule-index c.args.rules.now) ≤ list_count c.args.rules.now = take_count c.loop-rule.rule-index c.args.rules.now in
    omega (arith, c.loop-rule.invariant.cell, c.requires.few, fewer)

pub push_cell_rules-requires-clause-rule : goal.push_cell_rules-requires-clause-rule
push_cell_rules-requires-clause-rule c =
    called-there c.args.strings.now c.loop-rule.strings c.args.rules.now c.requires.names c.loop-rule.invariant.kept c.loop-rule.rule-index c.rule-item.result c.loop-rule-test.true c.rule-item.is

pub push_cell_rules-requires-clause-right : goal.push_cell_rules-requires-clause-right
push_cell_rules-requires-clause-right c =
    right-there c.args.strings.now c.loop-rule.strings c.args.rules.now c.requires.names c.loop-rule.invariant.kept c.loop-rule.rule-index c.rule-item.result c.loop-rule-test.true c.rule-item.is

pub loop-rule-preserved : goal.loop-rule-preserved
loop-rule-preserved c =
    let rules = c.args.rules.now in
    let symbols = c.args.symbols.now in
    let i = c.loop-rule.rule-index in
    let rule = c.rule-item.result in
    let old = c.args.plain.now.items in
    let middle = c.loop-rule.plain.items in
    let new = c.push_cell_rules.new.plain.items in
    record {
      cell =
          c.next_cell-cell.ensures ∙ ap (λ n. n + (if rule.list then 1 else 0)) c.loop-rule.invariant.cell
          ∙ add_assoc (length symbols) (list_count (take i rules)) (if rule.list then 1 else 0)
          ∙ ap (λ n. length symbols + n) (ap (λ (r : Rule). list_count (take i rules) + (if r.list then 1 else 0)) c.rule-item.is ∙ sym (length-filter_more is_list rules i rule c.loop-rule-test.true));
      plain = λ spec env later e.
          let there : slice_get rules i ≡ Some rule = slice_get-get_or rules i rule c.loop-rule-test.true ∙ ap Some (sym c.rule-item.is) in
          let in_spec : slice_get spec.rules i ≡ Some rule = ap (λ l. slice_get l i) e ∙ there in
          let more = c.in_ok-push_cell_rules.ensures.plain spec env i later (λ l. record { rule = in_spec; cell = c.loop-rule.invariant.cell ∙ ap (λ r. length symbols + list_count (take i r)) (sym e) ∙ cell_at spec symbols i rule in_spec l }) in
          subst (λ ps. AddsPlain spec env symbols ps old new) (sym (flat-more (rules_of_cell spec symbols) rules i rule c.loop-rule-test.true c.rule-item.is))
          (adds-then spec env symbols (flat_map (rules_of_cell spec symbols) (enumerated 0 (take i rules))) (rules_of_cell spec symbols (i, rule)) old middle new
          (c.loop-rule.invariant.plain spec env (more-again c.loop-rule.strings c.push_cell_rules.new.strings env.texts c.in_ok-push_cell_rules.ensures.kept later) e) more);
      kept = more-again c.args.strings.now c.loop-rule.strings c.push_cell_rules.new.strings c.loop-rule.invariant.kept c.in_ok-push_cell_rules.ensures.kept;
    }
