use Rattle.std.proofs.Common.{ℕ, map, take}
use Rattle.lido_base.specs.Environment.{Environment}
use Rattle.lido_base.specs.Texts.{Gains}
use Rattle.lido_syntax.specs.declared.spec.Spec.{Spec as Specification}
use Rattle.rule_tables.specs.CellRules.{link_rule, IsListAt, AddsPlain}
use Rattle.rule_tables.proofs.cell_rules.push_links.Given as goal

abbrev pub invariant-loop-element : goal.invariant-loop-element
invariant-loop-element l = record {
  plain : (spec : Specification) (env : Environment) (k : ℕ) → Gains l.strings env.texts → IsListAt spec l.symbols k l.rule l.cell
      → AddsPlain spec env l.symbols (map (link_rule spec l.symbols k) (take l.element-index l.elements)) l.initial.plain.items l.plain.items;
  kept : Gains l.initial.strings l.strings;
}
