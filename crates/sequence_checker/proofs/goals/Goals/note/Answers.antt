use Rattle.sequence_checker.specs.Goals.{goal_place}
use Rattle.sequence_checker.proofs.goals.Goals.note.Goals as goal

pub returns : goal.returns
unfolding goal_place
returns c = λ o. c.in_ok-insert.ensures.updates.0 (o.occ, o.attr.0)
