use Rattle.std.proofs.Common.{sym}
use Rattle.sequence_checker.proofs.EndLemmas.{ends-is}
use Rattle.sequence_checker.proofs.items.ends_last_visit.Goals as goal

pub returns : goal.returns
returns c = λ symbols. ends-is symbols c.args.visits.now c.args.rule.now c.args.seq.now c.in-Some.row.now c.in-Some-last_visit.visit c.in-Some.ensures (sym c.in-Some-last_visit.ensures)
