use Rattle.tree_reader.proofs.FlatLemmas.{trees_stop, trees_given, fits_later}
use Rattle.tree_reader.proofs.TablesOfParts.{flattened, fault_stays}
use Rattle.lido_base.specs.Tree.{Tree}
use Rattle.lido_base.specs.declared.value.Value.{Value}
use Rattle.lido_lexer.proofs.Reading.{gains_none}
use Rattle.tree_store.specs.declared.trees.Trees.{Trees}
use Rattle.tree_reader.proofs.whole.read_tree.Goals as goal

pub returns-in-Ok-clause-gives : goal.returns-in-Ok-clause-gives
returns-in-Ok-clause-gives c = let flat = c.args.flat.now in λ later gains.
    trees_given flat.symbols flat.rules flat.shapes flat.root c.args.strings.now c.args.text.now flat.well_formed later c.in-Ok.written (c.in-Ok.ensures.gives later gains)
    (fits_later flat.symbols flat.rules flat.shapes flat.root c.args.strings.now c.args.text.now c.written_of.new.strings later c.in-Ok.written
    (c.in-Ok.ensures.gives c.written_of.new.strings (gains_none c.written_of.new.strings)) (c.in-Ok.ensures.gives later gains) c.in-Ok.ensures.fits)
    c.flatten.result c.flatten.ensures.written c.flatten.ensures.flat c.flatten.ensures.within c.flatten.ensures.refused

pub returns-in-Err-clause-gives : goal.returns-in-Err-clause-gives
returns-in-Err-clause-gives c = let flat = c.args.flat.now in λ later gains.
    trees_stop flat.symbols flat.rules flat.shapes flat.root c.args.strings.now c.args.text.now c.in-Err.e (c.in-Err.ensures.gives later gains)

pub returns-in-Ok-clause-table : goal.returns-in-Ok-clause-table
returns-in-Ok-clause-table c = let flat = c.args.flat.now in
    flattened (Tree Value) Trees c.args.strings.now c.args.text.now c.written_of.new.strings flat.symbols flat.rules flat.shapes c.in-Ok.written c.in-Ok.written c.in-Ok.ensures.table
    c.flatten.result c.flatten.ensures.refused

pub returns-in-Err-clause-table : goal.returns-in-Err-clause-table
returns-in-Err-clause-table c = fault_stays (Tree Value) Trees c.args.strings.now c.args.text.now c.written_of.new.strings c.in-Err.e c.in-Err.ensures.table
