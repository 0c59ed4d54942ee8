use Rattle.std.proofs.Common.{◌≡◌, ◌+◌, length, take, filter}
use Rattle.std.specs.List.{AllZip}
use Rattle.lido_base.specs.Environment.{Environment}
use Rattle.lido_syntax.specs.declared.spec.Spec.{Spec as Specification}
use Rattle.lido_syntax.specs.declared.spec.RuleItem.{RuleItem as Rule}
use Rattle.lido_symbols.specs.Numbers.{enumerated}
use Rattle.rule_tables.specs.PlainRules.{written_rule}
use Rattle.rule_tables.specs.TablesOf.{IsPlainOf}
use Rattle.rule_tables.proofs.written.written_rules.Given as goal

abbrev pub invariant-loop-rule : goal.invariant-loop-rule
invariant-loop-rule l = record {
  cell : l.cell ≡ length l.symbols + length (filter (λ (r : Rule). r.list) (take l.rule-index l.rules));
  plain : (spec : Specification) (env : Environment) → spec.rules ≡ l.rules → AllZip (λ x flat. IsPlainOf spec env l.symbols (written_rule spec l.symbols x) flat) (enumerated 0 (take l.rule-index l.rules)) l.plain.items;
}
