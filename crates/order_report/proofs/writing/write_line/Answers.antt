use Rattle.std.proofs.Common.{◌++◌}
use Rattle.std.specs.Prelude.{codes}
use Rattle.order_report.specs.Lines.{path_of}
use Rattle.order_report.specs.Names.{texts_in}
use Rattle.order_report.proofs.PutsLemmas.{then_puts, stopped}
use Rattle.order_report.proofs.writing.write_line.Goals as goal

pub returns-in-Err-put_pieces : goal.returns-in-Err-put_pieces
returns-in-Err-put_pieces g c =
    then_puts 0 _ (codes "lido: ") _ _ _ _ _ _ _ _ c.in-Ok.ensures
    (stopped _ _ (path_of (texts_in c.args.strings) c.args.path.now ++ codes "\n") _ _ _ _ _ c.in-Err-put_pieces.ensures)

pub returns-in-Ok-put_path : goal.returns-in-Ok-put_path
returns-in-Ok-put_path g c =
    then_puts 0 _ (codes "lido: ") _ _ _ _ _ _ _ _ c.in-Ok.ensures
    (then_puts _ _ _ _ _ _ _ _ _ _ _ c.in-Ok-put_pieces.ensures (then_puts _ _ _ _ _ _ _ _ _ _ _ c.in-Ok-put_path.ensures c.put-in-Ok-put_path.ensures))

pub returns-in-Err-put_path : goal.returns-in-Err-put_path
returns-in-Err-put_path g c =
    then_puts 0 _ (codes "lido: ") _ _ _ _ _ _ _ _ c.in-Ok.ensures
    (then_puts _ _ _ _ _ _ _ _ _ _ _ c.in-Ok-put_pieces.ensures (stopped _ _ (codes "\n") _ _ _ _ _ c.in-Err-put_path.ensures))
