use Rattle.std.proofs.Common.{refl, sym, ◌∙◌}
use Rattle.tree_reader.proofs.StepsOfScanner.{ok_then, name_on, name_whole}
use Rattle.tree_reader.proofs.MovesLemmas.{moves_after, refused_after}
use Rattle.tree_reader.proofs.scanner.Scanner.name.Goals as goal

pub returns-then-is_name_byte-clause-moves : goal.returns-then-is_name_byte-clause-moves
returns-then-is_name_byte-clause-moves c = ok_then c.hold.result
    (λ e. name_on c.args.at c.args.b c.args.from c.args.name_at c.args.self.now c.hold.new.self c.requires.phase c.requires.stands (sym c.is_name_byte.ensures ∙ c.if-is_name_byte.true) e) c.hold.ensures.ok

pub returns-clause-moves : goal.returns-clause-moves
returns-clause-moves c = moves_after c.named.new.self c.named.result
    (name_whole c.args.at c.args.b c.args.from c.args.name_at c.args.self.now _ c.requires.phase c.requires.stands (sym c.is_name_byte.ensures ∙ c.if-is_name_byte.false) refl) c.named.ensures.moves

pub returns-clause-refused : goal.returns-clause-refused
returns-clause-refused c = refused_after c.named.result
    (name_whole c.args.at c.args.b c.args.from c.args.name_at c.args.self.now _ c.requires.phase c.requires.stands (sym c.is_name_byte.ensures ∙ c.if-is_name_byte.false) refl) c.named.ensures.refused
