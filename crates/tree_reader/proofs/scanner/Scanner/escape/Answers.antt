use Rattle.std.proofs.Common.{refl, sym, ◌∙◌}
use Rattle.tree_reader.proofs.StepsOfScanner.{ok_then, escape_octal, escape_on}
use Rattle.tree_reader.proofs.scanner.Scanner.escape.Goals as goal

pub returns-then-is_octal-clause-moves : goal.returns-then-is_octal-clause-moves
returns-then-is_octal-clause-moves c = escape_octal c.args.at c.args.b c.args.from _ c.args.self.now _ c.requires.phase c.requires.stands (sym c.is_octal.ensures ∙ c.if-is_octal.true) refl refl

pub returns-in-Some-clause-moves : goal.returns-in-Some-clause-moves
returns-in-Some-clause-moves c = ok_then c.hold.result
    (λ e. escape_on c.args.at c.args.b c.args.from c.in-Some.byte c.args.self.now c.hold.new.self c.requires.phase c.requires.stands (sym c.in-Some.ensures) e) c.hold.ensures.ok
