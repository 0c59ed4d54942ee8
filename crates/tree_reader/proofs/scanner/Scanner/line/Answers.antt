use Rattle.std.proofs.Common.{refl, sym, ◌∙◌, arith}
use Rattle.tree_reader.proofs.StepsOfScanner.{line_on, line_no_more, line_whole}
use Rattle.tree_reader.proofs.scanner.Scanner.line.Goals as goal

pub returns-in-Some-clause-moves : goal.returns-in-Some-clause-moves
returns-in-Some-clause-moves c = line_on c.args.at c.args.b c.args.from c.args.name_at c.args.count c.args.value c.in-Some.value c.args.self.now _ c.requires.phase c.requires.stands (sym c.is_digit.ensures ∙ c.if-is_digit.true)
    c.in-Some.ensures.1 c.in-Some.ensures.0 refl

pub returns-in-None-clause-refused : goal.returns-in-None-clause-refused
returns-in-None-clause-refused c = (refl, line_no_more c.args.at c.args.b c.args.from c.args.name_at c.args.count c.args.value c.args.self.now c.requires.phase (sym c.is_digit.ensures ∙ c.if-is_digit.true) c.in-None.ensures)

pub returns-clause-moves : goal.returns-clause-moves
returns-clause-moves c = line_whole c.args.at c.args.b c.args.from c.args.name_at c.args.count c.args.value c.args.self.now _ c.requires.phase c.requires.stands c.if-b-ne58.false (omega (arith, c.if-count-eq0.false)) refl
