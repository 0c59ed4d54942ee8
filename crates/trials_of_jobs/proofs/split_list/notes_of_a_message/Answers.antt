use Rattle.trials_of_jobs.proofs.SplitNotes.{noted, left-out, none-noted}
use Rattle.trials_of_jobs.proofs.split_list.notes_of_a_message.Goals as goal

pub returns-clause-met : goal.returns-clause-met
returns-clause-met c = noted

pub returns-clause-note_left_out : goal.returns-clause-note_left_out
returns-clause-note_left_out c = left-out

pub returns-clause-no_message : goal.returns-clause-no_message
returns-clause-no_message c = none-noted
