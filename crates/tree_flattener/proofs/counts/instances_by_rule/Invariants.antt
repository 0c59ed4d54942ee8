use Rattle.std.proofs.Common.{◌≡◌, map, length, take}
use Rattle.std.specs.Prelude.{min}
use Rattle.flat_grammar.specs.Rules.{attrs_of}
use Rattle.flat_grammar.specs.declared.flat.FlatRule.{FlatRule}
use Rattle.tree_flattener.proofs.counts.instances_by_rule.Given as goal

-- those of the first rules
abbrev pub invariant-loop-rule : goal.invariant-loop-rule
invariant-loop-rule l = l.numbers.items ≡ map (λ (r : FlatRule). min (length (attrs_of l.flat.symbols r.left)) 16777217) (take l.rule-index l.flat.rules)
