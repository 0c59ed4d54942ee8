use Rattle.std.proofs.Common.{◌≡◌, ◌++◌, flat_map, take}
use Rattle.lido_syntax.specs.declared.spec.Comp.{Comp}
use Rattle.clash_pairs.specs.Facts.{kinds_by_target}
use Rattle.clash_pairs.proofs.sides.push_comps.Given as goal

abbrev pub invariant-loop-comp : goal.invariant-loop-comp
invariant-loop-comp l = l.facts.items ≡ l.initial.facts.items ++ flat_map (λ (c : Comp). kinds_by_target l.numbers l.chains l.rule c.target) (take l.comp-index l.comps)
