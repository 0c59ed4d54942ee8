use Rattle.std.proofs.Common.{refl, sym, ◌∙◌}
use Rattle.tree_reader.proofs.StepsOfScanner.{minus_on}
use Rattle.tree_reader.proofs.scanner.Scanner.minus.Goals as goal

pub returns-clause-moves : goal.returns-clause-moves
returns-clause-moves c = minus_on c.args.at c.args.b c.args.from _ c.args.self.now _ c.requires.phase c.requires.stands (sym c.is_digit.ensures ∙ c.if-not-is_digit.false) c.from.ensures refl
