use Rattle.std.proofs.Common.{◌≡◌, ◌+◌, length, take, filter}
use Rattle.std.specs.List.{flat_map}
use Rattle.lido_base.specs.Environment.{Environment}
use Rattle.lido_base.specs.Texts.{Gains}
use Rattle.lido_syntax.specs.declared.spec.Spec.{Spec as Specification}
use Rattle.lido_syntax.specs.declared.spec.RuleItem.{RuleItem as Rule}
use Rattle.lido_symbols.specs.Numbers.{enumerated}
use Rattle.rule_tables.specs.CellRules.{AddsPlain}
use Rattle.rule_tables.specs.PlainRules.{cell_rules as rules_of_cell}
use Rattle.rule_tables.proofs.cell_rules.push_rules_of_cells.Given as goal

abbrev pub invariant-loop-rule : goal.invariant-loop-rule
invariant-loop-rule l = record {
  cell : l.cell ≡ length l.symbols + length (filter (λ (r : Rule). r.list) (take l.rule-index l.rules));
  plain : (spec : Specification) (env : Environment) → Gains l.strings env.texts → spec.rules ≡ l.rules
      → AddsPlain spec env l.symbols (flat_map (rules_of_cell spec l.symbols) (enumerated 0 (take l.rule-index l.rules))) l.initial.plain.items l.plain.items;
  kept : Gains l.initial.strings l.strings;
}
