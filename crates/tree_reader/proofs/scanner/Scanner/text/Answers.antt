use Rattle.std.proofs.Common.{refl, sym, ◌∙◌}
use Rattle.tree_reader.proofs.StepsOfScanner.{ok_then, text_whole, text_escape, text_on, text_nowhere}
use Rattle.tree_reader.proofs.scanner.Scanner.text.Goals as goal

pub returns-then-b-eq34-clause-moves : goal.returns-then-b-eq34-clause-moves
returns-then-b-eq34-clause-moves c = ok_then c.give_text.result
    (λ e. text_whole c.args.at c.args.b c.args.from c.args.self.now c.give_text.new.self c.requires.phase c.requires.stands c.if-b-eq34.true e) c.give_text.ensures.ok

pub returns-then-b-eq92-clause-moves : goal.returns-then-b-eq92-clause-moves
returns-then-b-eq92-clause-moves c = text_escape c.args.at c.args.b c.args.from c.args.self.now _ c.requires.phase c.requires.stands c.if-b-eq92.true refl

pub returns-then-is_plain-clause-moves : goal.returns-then-is_plain-clause-moves
returns-then-is_plain-clause-moves c = ok_then c.hold.result
    (λ e. text_on c.args.at c.args.b c.args.from c.args.self.now c.hold.new.self c.requires.phase c.requires.stands (sym c.is_plain.ensures ∙ c.if-is_plain.true) e) c.hold.ensures.ok

pub returns-clause-refused : goal.returns-clause-refused
returns-clause-refused c = (refl, text_nowhere c.args.at c.args.b c.args.from c.args.self.now c.requires.phase (λ e. c.if-b-eq34.false e) (λ e. c.if-b-eq92.false e) (sym c.is_plain.ensures ∙ c.if-is_plain.false))
