use Rattle.std.proofs.Common.{refl, sym, ◌∙◌, arith}
use Rattle.tree_reader.proofs.StepsOfScanner.{column_on, column_no_more, column_whole}
use Rattle.tree_reader.proofs.MovesLemmas.{moves_after, refused_after}
use Rattle.tree_reader.proofs.scanner.Scanner.column.Goals as goal

pub returns-in-Some-clause-moves : goal.returns-in-Some-clause-moves
returns-in-Some-clause-moves c = column_on c.args.at c.args.b c.args.from c.args.name_at c.args.line c.args.count c.args.value c.in-Some.value c.args.self.now _ c.requires.phase c.requires.stands (sym c.is_digit.ensures ∙ c.if-is_digit.true)
    c.in-Some.ensures.1 c.in-Some.ensures.0 refl

pub returns-in-None-clause-refused : goal.returns-in-None-clause-refused
returns-in-None-clause-refused c = (refl, column_no_more c.args.at c.args.b c.args.from c.args.name_at c.args.line c.args.count c.args.value c.args.self.now c.requires.phase (sym c.is_digit.ensures ∙ c.if-is_digit.true) c.in-None.ensures)

pub returns-in-Ok-clause-moves : goal.returns-in-Ok-clause-moves
returns-in-Ok-clause-moves c = moves_after c.gap.new.self c.gap.result
    (column_whole c.args.at c.args.b c.args.from c.args.name_at c.args.line c.args.count c.args.value c.args.self.now c.begin_node.new.self c.requires.phase c.requires.stands (sym c.is_digit.ensures ∙ c.if-is_digit.false) (omega (arith, c.if-count-eq0.false)) c.in-Ok.ensures.ok) c.gap.ensures.moves

pub returns-in-Ok-clause-refused : goal.returns-in-Ok-clause-refused
returns-in-Ok-clause-refused c = refused_after c.gap.result
    (column_whole c.args.at c.args.b c.args.from c.args.name_at c.args.line c.args.count c.args.value c.args.self.now c.begin_node.new.self c.requires.phase c.requires.stands (sym c.is_digit.ensures ∙ c.if-is_digit.false) (omega (arith, c.if-count-eq0.false)) c.in-Ok.ensures.ok) c.gap.ensures.refused
