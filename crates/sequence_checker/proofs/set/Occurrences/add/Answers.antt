use Rattle.std.proofs.Common.{◌∙◌}
use Rattle.flat_grammar.specs.WellFormed.{is_same_occ}
use Rattle.sequence_checker.specs.Sets.{has}
use Rattle.sequence_checker.proofs.Bools.{cond-or}
use Rattle.sequence_checker.proofs.set.Occurrences.add.Goals as goal

pub returns : goal.returns
unfolding has
returns c = λ p. c.in_ok-insert.ensures.updates.0 (p.occ, p.attr.0) ∙ cond-or (is_same_occ c.args.o p) (has c.args.self.now p)
