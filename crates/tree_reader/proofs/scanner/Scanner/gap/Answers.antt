use Rattle.std.proofs.Common.{sym, ◌∙◌}
use Rattle.tree_reader.proofs.StepsOfScanner.{gap_white}
use Rattle.tree_reader.proofs.scanner.Scanner.gap.Goals as goal

pub returns-then-is_white-clause-moves : goal.returns-then-is_white-clause-moves
returns-then-is_white-clause-moves c = gap_white c.args.at c.args.b c.args.self.now c.requires.phase c.requires.stands (sym c.is_white.ensures ∙ c.if-is_white.true)
