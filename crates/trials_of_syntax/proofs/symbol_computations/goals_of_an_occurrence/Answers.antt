use Rattle.std.specs.Prelude.{◌≡◌, Some, None}
use Rattle.lido_syntax.specs.Computation.{Synthesized, Inherited}
use Rattle.lido_syntax.proofs.DecidedLemmas.{goal_of}
use Rattle.lido_syntax.proofs.SetsLemmas.{sets_of}
use Rattle.trials_of_syntax.specs.HandedDown as handed
use Rattle.trials_of_syntax.specs.Classes.{Y, v, top_rule, class_symbol_rule}
use Rattle.trials_of_syntax.proofs.HandedDownLemmas.{five_in_force}
use Rattle.trials_of_syntax.proofs.symbol_computations.goals_of_an_occurrence.Goals as goal

no_place : ¬ (None ≡ Some handed.Right)
no_place e = cc

pub returns : goal.returns
returns c = record {
  left = λ h c force. (goal_of handed.spec (sets_of handed.spec) handed.right_rule 0 handed.Right (Inherited handed.i) h c force).1;
  right = λ h c force. (goal_of class_symbol_rule (sets_of class_symbol_rule) top_rule 2 Y (Synthesized v) h c force).1;
  beyond = λ h c force. no_place (goal_of handed.spec (sets_of handed.spec) handed.top_rule 7 handed.Right (Inherited handed.i) h c force).0;
  there = five_in_force;
}
