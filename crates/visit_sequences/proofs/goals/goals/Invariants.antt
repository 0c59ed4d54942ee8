use Rattle.std.specs.Prelude.{All, map, take}
use Rattle.std.proofs.Common.{◌≡◌}
use Rattle.flat_grammar.specs.declared.flat.FlatComp.{FlatComp}
use Rattle.visit_sequences.specs.declared.goals.Goal.{Goal}
use Rattle.visit_sequences.specs.Steps.{IsGoal}
use Rattle.visit_sequences.proofs.goals.goals.Given as goal

-- the goals of the computations so far
abbrev pub invariant-loop-comp : goal.invariant-loop-comp
invariant-loop-comp l = record {
  all : map (λ (g : Goal). g.goal) l.goals.items ≡ map (λ (d : FlatComp). d.goal) (take l.comp-index l.rule.comps);
  each : All (IsGoal l.flat.symbols l.flat.rules l.rule) l.goals.items;
}
