use Rattle.std.proofs.Common.{◌≡◌, ◌++◌, flat_map, take}
use Rattle.lido_syntax.specs.declared.spec.RuleItem.{RuleItem as Rule}
use Rattle.need_graphs.specs.Users.{readers_of}
use Rattle.need_graphs.proofs.readers.note_rules.Given as goal

-- the rules so far
abbrev pub invariant-loop-rule : goal.invariant-loop-rule
invariant-loop-rule l = l.found.items ≡ l.initial.found.items ++ flat_map (λ (r : Rule). readers_of l.chain.0 l.starts r.body) (take l.rule-index l.rules)
