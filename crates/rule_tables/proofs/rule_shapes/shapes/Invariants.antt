use Rattle.std.proofs.Common.{take}
use Rattle.std.specs.List.{AllZip}
use Rattle.lido_syntax.specs.declared.spec.Spec.{Spec as Specification}
use Rattle.lido_symbols.specs.Numbers.{enumerated}
use Rattle.rule_tables.specs.PlainRules.{IsShapeOf}
use Rattle.rule_tables.proofs.rule_shapes.shapes.Given as goal

abbrev pub invariant-loop-k : goal.invariant-loop-k
invariant-loop-k l = (spec : Specification) → AllZip (IsShapeOf spec l.symbols) (enumerated 0 (take l.k l.rules)) l.shapes.items
