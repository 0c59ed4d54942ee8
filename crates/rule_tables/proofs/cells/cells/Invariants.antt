use Rattle.std.proofs.Common.{ℕ, List as Sequence, take, filter}
use Rattle.std.specs.List.{AllZip}
use Rattle.lido_base.specs.Environment.{Environment}
use Rattle.lido_base.specs.Texts.{Gains}
use Rattle.lido_syntax.specs.declared.spec.Spec.{Spec as Specification}
use Rattle.lido_syntax.specs.declared.spec.RuleItem.{RuleItem as Rule}
use Rattle.rule_tables.specs.TablesOf.{IsCellOf}
use Rattle.rule_tables.proofs.cells.cells.Given as goal

abbrev pub invariant-loop-rule : goal.invariant-loop-rule
invariant-loop-rule l = record {
  cells : (spec : Specification) (env : Environment) (symbols : Sequence ℕ) → Gains l.strings env.texts
      → AllZip (IsCellOf spec env symbols) (filter (λ (r : Rule). r.list) (take l.rule-index l.rules)) l.rows.items;
  kept : Gains l.initial.strings l.strings;
}
