use Rattle.std.proofs.Common.{sym, ◌∙◌}
use Rattle.tree_reader.proofs.StepsOfScanner.{ok_then, opened_gap, opened_name}
use Rattle.tree_reader.proofs.scanner.Scanner.opened.Goals as goal

pub returns-then-is_white-clause-moves : goal.returns-then-is_white-clause-moves
returns-then-is_white-clause-moves c = opened_gap c.args.at c.args.b c.args.from c.args.self.now c.requires.phase c.requires.stands (sym c.is_white.ensures ∙ c.if-is_white.true)

pub returns-then-is_letter-clause-moves : goal.returns-then-is_letter-clause-moves
returns-then-is_letter-clause-moves c = ok_then c.hold.result
    (λ e. opened_name c.args.at c.args.b c.args.from c.args.self.now c.hold.new.self c.requires.phase c.requires.stands (sym c.is_letter.ensures ∙ c.if-is_letter.true) e) c.hold.ensures.ok
