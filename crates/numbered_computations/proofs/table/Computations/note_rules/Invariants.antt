use Rattle.std.proofs.Common.{◌≡◌, ℕ, flat_map, take}
use Rattle.lido_syntax.specs.declared.spec.RuleItem.{RuleItem as Rule}
use Rattle.numbered_computations.specs.declared.table.Holder.TheVariants as holder
use Rattle.numbered_computations.specs.Held.{held_at, held_by, last_of}
use Rattle.numbered_computations.proofs.table.Computations.note_rules.Given as goal

-- the rules so far
abbrev pub invariant-loop-rule : goal.invariant-loop-rule
invariant-loop-rule l = (n : ℕ) → held_at l.self n ≡ last_of n (held_at l.initial.self n) (flat_map (λ (r : Rule). held_by holder.Rule r.body) (take l.rule-index l.rules))
