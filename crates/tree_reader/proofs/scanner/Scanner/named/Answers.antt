use Rattle.std.proofs.Common.{refl, sym, ◌∙◌}
use Rattle.tree_reader.proofs.StepsOfScanner.{named_gap, named_line, named_whole}
use Rattle.tree_reader.proofs.MovesLemmas.{moves_after, refused_after}
use Rattle.tree_reader.proofs.scanner.Scanner.named.Goals as goal

pub returns-then-is_white-clause-moves : goal.returns-then-is_white-clause-moves
returns-then-is_white-clause-moves c = named_gap c.args.at c.args.b c.args.from c.args.name_at c.args.self.now c.requires.phase c.requires.stands (sym c.is_white.ensures ∙ c.if-is_white.true)

pub returns-then-b-eq64-clause-moves : goal.returns-then-b-eq64-clause-moves
returns-then-b-eq64-clause-moves c = named_line c.args.at c.args.b c.args.from c.args.name_at c.args.self.now _ c.requires.phase c.requires.stands c.if-b-eq64.true refl

pub returns-in-Ok-clause-moves : goal.returns-in-Ok-clause-moves
returns-in-Ok-clause-moves c = moves_after c.gap.new.self c.gap.result
    (named_whole c.args.at c.args.b c.args.from c.args.name_at c.args.self.now c.begin_node.new.self c.requires.phase c.requires.stands (sym c.is_white.ensures ∙ c.if-is_white.false) (λ e. c.if-b-eq64.false e) c.in-Ok.ensures.ok) c.gap.ensures.moves

pub returns-in-Ok-clause-refused : goal.returns-in-Ok-clause-refused
returns-in-Ok-clause-refused c = refused_after c.gap.result
    (named_whole c.args.at c.args.b c.args.from c.args.name_at c.args.self.now c.begin_node.new.self c.requires.phase c.requires.stands (sym c.is_white.ensures ∙ c.if-is_white.false) (λ e. c.if-b-eq64.false e) c.in-Ok.ensures.ok) c.gap.ensures.refused
