use Rattle.visit_sequences.proofs.GoalLemmas.{depends-is}
use Rattle.visit_sequences.proofs.Occurrences.{rule-is}
use Rattle.visit_sequences.proofs.goals.goal_of.Goals as goal

pub returns-clause-waits : goal.returns-clause-waits
returns-clause-waits c =
    let flat = c.args.flat.now in
    record {
      same = c.same_of.ensures;
      direct = depends-is flat.symbols c.args.rule.now c.args.comp.now c.in_ok-dependencies_of.field-0.items (rule-is flat.symbols flat.rules flat.shapes flat.root flat.well_formed c.args.rule.now c.requires.rule) c.requires.comp c.in_ok-dependencies_of.ensures;
    }
