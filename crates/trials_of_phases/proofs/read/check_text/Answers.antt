use Rattle.std.proofs.Common.{arith}
use Rattle.rule_tables.proofs.LaterTexts.{no-fewer}
use Rattle.trials_of_phases.proofs.read.check_text.Goals as goal

pub check_forced-requires-clause-named : goal.check_forced-requires-clause-named
check_forced-requires-clause-named c = record {
  names = λ k d within. (let l = c.requires.named.names k d within in let more = no-fewer c.args.strings.now c.forced_of.new.strings c.forced_of.ensures.kept in omega (arith, l, more));
  few = c.requires.named.few;
}
