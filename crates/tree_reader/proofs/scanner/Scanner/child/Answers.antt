use Rattle.std.proofs.Common.{refl, sym, ◌∙◌}
use Rattle.tree_reader.proofs.StepsOfScanner.{ok_then, child_end, child_open, child_quote, child_minus, child_digit, child_stuck}
use Rattle.tree_reader.proofs.scanner.Scanner.child.Goals as goal

pub returns-then-b-eq41-clause-moves : goal.returns-then-b-eq41-clause-moves
returns-then-b-eq41-clause-moves c = ok_then c.give.result
    (λ e. child_end c.args.at c.args.b c.args.depth c.args.self.now c.give.new.self c.requires.phase c.requires.stands c.if-b-eq41.true c.requires.depth.0 c.requires.depth.1 e) c.give.ensures.ok

pub returns-then-b-eq40-clause-moves : goal.returns-then-b-eq40-clause-moves
returns-then-b-eq40-clause-moves c = child_open c.args.at c.args.b c.args.depth c.args.self.now _ c.requires.phase c.requires.stands c.if-b-eq40.true c.requires.depth.0 c.requires.depth.1 refl

pub returns-then-b-eq34-clause-moves : goal.returns-then-b-eq34-clause-moves
returns-then-b-eq34-clause-moves c = child_quote c.args.at c.args.b c.args.depth c.args.self.now _ c.requires.phase c.requires.stands c.if-b-eq34.true c.requires.depth.0 c.requires.depth.1 refl

pub returns-then-b-eq45-clause-moves : goal.returns-then-b-eq45-clause-moves
returns-then-b-eq45-clause-moves c = child_minus c.args.at c.args.b c.args.depth c.args.self.now _ c.requires.phase c.requires.stands c.if-b-eq45.true c.requires.depth.0 c.requires.depth.1 refl

pub returns-then-is_digit-clause-moves : goal.returns-then-is_digit-clause-moves
returns-then-is_digit-clause-moves c = child_digit c.args.at c.args.b c.args.depth _ c.args.self.now _ c.requires.phase c.requires.stands (sym c.is_digit.ensures ∙ c.if-is_digit.true) c.requires.depth.0 c.requires.depth.1 c.from.ensures refl

pub returns-clause-refused : goal.returns-clause-refused
returns-clause-refused c = (refl, child_stuck c.args.at c.args.b c.args.self.now c.requires.phase c.requires.other (λ e. c.if-b-eq40.false e) (λ e. c.if-b-eq45.false e) (λ e. c.if-b-eq34.false e) (λ e. c.if-b-eq41.false e) (sym c.is_digit.ensures ∙ c.if-is_digit.false))
