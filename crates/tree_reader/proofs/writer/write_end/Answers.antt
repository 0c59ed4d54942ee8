use Rattle.std.proofs.Common.{length}
use Rattle.tree_reader.specs.Asking.{asked}
use Rattle.tree_reader.proofs.Written.{written_end, stopped_end, fails_if}
use Rattle.tree_reader.proofs.writer.write_end.Goals as goal

pub returns-in-Ok-clause-goes : goal.returns-in-Ok-clause-goes
returns-in-Ok-clause-goes c = λ names texts t most more answer written.
    written_end (asked c.args.flat.now.symbols c.args.flat.now.rules c.args.flat.now.shapes c.args.flat.now.root names) (length c.args.flat.now.shapes) most c.args.parent c.args.outer.now more answer texts t c.args.at c.pop.result c.pop.new.outer c.pop.ensures.last c.pop.ensures.empty (c.in-Ok.ensures.enough names) written

pub returns-in-Err-clause-refused : goal.returns-in-Err-clause-refused
returns-in-Err-clause-refused c = λ names texts t most more answer written.
    fails_if ((asked c.args.flat.now.symbols c.args.flat.now.rules c.args.flat.now.shapes c.args.flat.now.root names).is_enough c.args.parent.shape c.args.parent.has) c.args.at c.in-Err.e (c.in-Err.ensures.refused names)
    (λ fails. stopped_end (asked c.args.flat.now.symbols c.args.flat.now.rules c.args.flat.now.shapes c.args.flat.now.root names) (length c.args.flat.now.shapes) most c.args.parent c.args.outer.now more answer texts t c.args.at fails written)
