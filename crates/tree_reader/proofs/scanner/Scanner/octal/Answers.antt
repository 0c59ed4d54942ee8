use Rattle.std.proofs.Common.{refl, sym, ◌∙◌}
use Rattle.tree_reader.proofs.StepsOfScanner.{octal_at, octal_stuck_at, octal_whole, octal_all}
use Rattle.tree_reader.proofs.MovesLemmas.{moves_after, refused_after}
use Rattle.tree_reader.proofs.scanner.Scanner.octal.Goals as goal

pub returns-in-Some-clause-moves : goal.returns-in-Some-clause-moves
returns-in-Some-clause-moves c = octal_at c.args.at c.args.b c.args.from c.args.value c.in-Some.value c.args.count c.args.self.now _ c.requires.phase c.requires.stands (sym c.takes_octal.ensures ∙ c.if-takes_octal.true)
    c.in-Some.ensures.1 c.in-Some.ensures.0 refl

pub returns-in-None-clause-refused : goal.returns-in-None-clause-refused
returns-in-None-clause-refused c = (refl, octal_stuck_at c.args.at c.args.b c.args.from c.args.value c.args.count c.args.self.now c.requires.phase (sym c.takes_octal.ensures ∙ c.if-takes_octal.true) c.in-None.ensures)

pub returns-in-Ok-clause-moves : goal.returns-in-Ok-clause-moves
returns-in-Ok-clause-moves c = moves_after c.text.new.self c.text.result
    (octal_whole c.args.at c.args.b c.args.from c.args.value c.args.count c.args.self.now c.hold.new.self c.requires.phase c.requires.stands (octal_all c.args.count c.args.b (sym c.takes_octal.ensures ∙ c.if-takes_octal.false)) c.in-Ok.ensures.ok) c.text.ensures.moves

pub returns-in-Ok-clause-refused : goal.returns-in-Ok-clause-refused
returns-in-Ok-clause-refused c = refused_after c.text.result
    (octal_whole c.args.at c.args.b c.args.from c.args.value c.args.count c.args.self.now c.hold.new.self c.requires.phase c.requires.stands (octal_all c.args.count c.args.b (sym c.takes_octal.ensures ∙ c.if-takes_octal.false)) c.in-Ok.ensures.ok) c.text.ensures.refused
