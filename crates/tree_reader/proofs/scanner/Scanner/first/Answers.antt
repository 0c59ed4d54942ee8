use Rattle.std.proofs.Common.{refl}
use Rattle.tree_reader.proofs.StepsOfScanner.{first_open, first_stuck}
use Rattle.tree_reader.proofs.scanner.Scanner.first.Goals as goal

pub returns-clause-moves : goal.returns-clause-moves
returns-clause-moves c = first_open c.args.at c.args.b c.args.self.now _ c.requires.phase c.requires.stands c.if-b-ne40.false c.requires.depth refl

pub returns-then-b-ne40-clause-refused : goal.returns-then-b-ne40-clause-refused
returns-then-b-ne40-clause-refused c = (refl, first_stuck c.args.at c.args.b c.args.self.now c.requires.phase c.requires.depth c.requires.other (λ e. c.if-b-ne40.true e))
