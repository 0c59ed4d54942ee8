use Rattle.tree_reader.proofs.WholeLemmas.{written_next, written_stop, written_fault}
use Rattle.std.proofs.Common.{ap, arith, length}
use Rattle.lido_base.specs.Tree.{Tree}
use Rattle.lido_base.specs.declared.value.Value.{Value}
use Rattle.tree_reader.proofs.TablesOfParts.{unread, text_read, text_stops}
use Rattle.tree_reader.proofs.whole.written_of.Goals as goal

pub returns-in-Err-clause-gives : goal.returns-in-Err-clause-gives
returns-in-Err-clause-gives c = λ later gains. written_stop c.args.flat.now.symbols c.args.flat.now.rules c.args.flat.now.shapes c.args.flat.now.root c.args.strings.now c.args.text.now c.in-Err.e c.in-Err.ensures.gives

pub returns-in-Ok-write_tree-clause-gives : goal.returns-in-Ok-write_tree-clause-gives
returns-in-Ok-write_tree-clause-gives c = λ later gains. written_next c.args.flat.now.symbols c.args.flat.now.rules c.args.flat.now.shapes c.args.flat.now.root c.args.strings.now c.args.text.now c.in-Ok.parts.items c.as_slice.result.now c.as_slice.ensures.value _ c.in-Ok.ensures.gives (c.in-Ok-write_tree.ensures.gives later gains)

pub returns-clause-gives : goal.returns-clause-gives
returns-clause-gives c = λ later gains. written_fault c.args.flat.now.symbols c.args.flat.now.rules c.args.flat.now.shapes c.args.flat.now.root c.args.strings.now c.args.text.now c.in-Ok.parts.items c.as_slice.result.now c.as_slice.ensures.value c.in-Err-write_tree.e c.in-Ok.ensures.gives (c.in-Err-write_tree.ensures.gives later gains)

pub returns-in-Err-clause-table : goal.returns-in-Err-clause-table
returns-in-Err-clause-table c = unread (Tree Value) c.args.strings.now c.args.text.now c.in-Err.e c.in-Err.ensures.gives

pub returns-in-Ok-write_tree-clause-table : goal.returns-in-Ok-write_tree-clause-table
returns-in-Ok-write_tree-clause-table c = text_read (Tree Value) c.args.strings.now c.args.text.now c.write_tree.new.strings c.in-Ok.parts.items c.as_slice.result.now c.as_slice.ensures.value c.in-Ok.ensures.gives c.in-Ok-write_tree.tree c.in-Ok-write_tree.ensures.table

pub returns-clause-table : goal.returns-clause-table
returns-clause-table c = text_stops (Tree Value) c.args.strings.now c.args.text.now c.write_tree.new.strings c.in-Ok.parts.items c.as_slice.result.now c.as_slice.ensures.value c.in-Ok.ensures.gives c.in-Err-write_tree.e c.in-Err-write_tree.ensures.table

pub returns-in-Ok-write_tree-clause-few : goal.returns-in-Ok-write_tree-clause-few
returns-in-Ok-write_tree-clause-few c = omega (arith, ap length c.as_slice.ensures.value, c.in-Ok.ensures.few, c.write_tree.ensures.few_texts)

pub returns-clause-few : goal.returns-clause-few
returns-clause-few c = omega (arith, ap length c.as_slice.ensures.value, c.in-Ok.ensures.few, c.write_tree.ensures.few_texts)
