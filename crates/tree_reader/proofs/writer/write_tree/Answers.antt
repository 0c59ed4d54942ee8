use Rattle.std.proofs.Common.{ap, arith, rules, ◌+◌, drop, length, Ok}
use Rattle.lido_lexer.proofs.Reading.{gains_none, gains_more}
use Rattle.tree_reader.specs.Asking.{asked}
use Rattle.tree_reader.specs.WrittenTrees.{meaning}
use Rattle.lido_base.specs.Plain.{plain_tree}
use Rattle.tree_reader.proofs.Written.{all_written, next_part, no_more_parts, means, written_grown}
use Rattle.tree_reader.proofs.OneForest.{gives_fault, the_meaning}
use Rattle.tree_reader.proofs.IntsLemmas.{one_more, all_have, below_first}
use Rattle.tree_reader.proofs.ReadFits.{read_fits}
use Rattle.tree_reader.proofs.TablesOfParts.{one_read, more_read, all_read, first_stops, later_stops, first_of_all}
use Rattle.lido_base.specs.Tree.{Tree}
use Rattle.lido_base.specs.declared.value.Value.{Value}
use Rattle.tree_reader.proofs.writer.write_tree.Goals as goal

pub returns-in-Err-clause-gives : goal.returns-in-Err-clause-gives
returns-in-Err-clause-gives c = λ later gains.
    let (at, below, end, is, rest) = c.first_name-name_at.ensures in
    gives_fault (asked c.args.flat.now.symbols c.args.flat.now.rules c.args.flat.now.shapes c.args.flat.now.root c.args.strings.now) c.args.parts.now c.in-Err.e (means (asked c.args.flat.now.symbols c.args.flat.now.rules c.args.flat.now.shapes c.args.flat.now.root c.args.strings.now) c.args.parts.now at c.first_name-name_at.result.0 c.first_name-name_at.result.1.now c.first_name-name_at.result.2 below end c.in-Err.e is
    (c.in-Err.ensures.refused c.args.strings.now (gains_none c.args.strings.now) (omega (arith, ap length c.as_slice-names.ensures.value, c.in-Ok.ensures.each, c.len.ensures.count)) below end))

pub returns-in-Err-write_part-clause-gives : goal.returns-in-Err-write_part-clause-gives
returns-in-Err-write_part-clause-gives c = λ later gains.
    let (at, name_at, name, coordinates, below, end, is, written) = c.loop-part.invariant.written in
    gives_fault (asked c.args.flat.now.symbols c.args.flat.now.rules c.args.flat.now.shapes c.args.flat.now.root c.args.strings.now) c.args.parts.now c.in-Err-write_part.e (means (asked c.args.flat.now.symbols c.args.flat.now.rules c.args.flat.now.shapes c.args.flat.now.root c.args.strings.now) c.args.parts.now at name_at name coordinates below end c.in-Err-write_part.e is
    (c.in-Err-write_part.ensures.refused c.args.strings.now c.loop-part.invariant.kept (omega (arith, ap length c.as_slice-names.ensures.value, c.in-Ok.ensures.each, c.len.ensures.count)) c.loop-part.part-index (drop (c.loop-part.part-index + 1) c.first_name-name_at.result.3.now) (meaning (asked c.args.flat.now.symbols c.args.flat.now.rules c.args.flat.now.shapes c.args.flat.now.root c.args.strings.now) name_at name coordinates below end)
    (next_part c.first_name-name_at.result.3.now c.loop-part.part-index c.part-item.result c.in-Some.parent (omega arith) c.part-item.is c.in-Some.is written)))

pub loop-part-preserved : goal.loop-part-preserved
loop-part-preserved c =
    let (at, name_at, name, coordinates, below, end, is, written) = c.loop-part.invariant.written in
    record {
      written = (
        at,
        name_at,
        name,
        coordinates,
        below,
        end,
        is,
        c.in-Ok-write_part.ensures.goes c.args.strings.now c.loop-part.invariant.kept (omega (arith, ap length c.as_slice-names.ensures.value, c.in-Ok.ensures.each, c.len.ensures.count)) c.loop-part.part-index (drop (c.loop-part.part-index + 1) c.first_name-name_at.result.3.now) (meaning (asked c.args.flat.now.symbols c.args.flat.now.rules c.args.flat.now.shapes c.args.flat.now.root c.args.strings.now) name_at name coordinates below end)
            (next_part c.first_name-name_at.result.3.now c.loop-part.part-index c.part-item.result c.in-Some.parent (omega arith) c.part-item.is c.in-Some.is written),
      );
      ints = one_more c.loop-part.part-index c.first_name-name_at.result.3.now c.part-item.result (omega arith) c.part-item.is c.in-Ok-write_part.ensures.int c.loop-part.invariant.ints;
      few_nodes = c.in-Ok-write_part.ensures.few_nodes;
      so_far = more_read c.args.strings.now c.args.parts.now c.first_name-name_at.result.3.now c.first_name-name_at.result.0 c.first_name-name_at.result.1.now c.first_name-name_at.result.2 c.first_name-name_at.ensures
          c.loop-part.part-index c.part-item.result c.loop-part.strings c.write_part.new.strings (length c.loop-part.tree) (length c.write_part.new.tree) (omega arith) c.part-item.is c.loop-part.invariant.so_far
          c.in-Ok-write_part.ensures.read c.in-Ok-write_part.ensures.count c.write_part.ensures.few_texts;
      kept = gains_more c.loop-part.invariant.kept c.write_part.ensures.kept;
    }

pub returns-clause-gives : goal.returns-clause-gives
returns-clause-gives c = λ later gains.
    let (at, name_at, name, coordinates, below, end, is, written) = c.loop-part.invariant.written in
    the_meaning (asked c.args.flat.now.symbols c.args.flat.now.rules c.args.flat.now.shapes c.args.flat.now.root c.args.strings.now) c.args.parts.now (Ok (plain_tree later c.loop-part.tree))
    (at, name_at, name, coordinates, below, end, is, all_written (written_grown gains (no_more_parts c.first_name-name_at.result.3.now c.loop-part.part-index (omega arith) written)))

pub returns-clause-fits : goal.returns-clause-fits
returns-clause-fits c =
    let (at, name_at, name, coordinates, below, end, is, written) = c.loop-part.invariant.written in
    read_fits c.args.flat.now.symbols c.args.flat.now.rules c.args.flat.now.shapes c.args.flat.now.root c.args.strings.now c.args.flat.now.well_formed name_at name coordinates below end
    (plain_tree c.loop-part.strings c.loop-part.tree)
    (below_first c.args.parts.now at name_at name coordinates below end c.first_name-name_at.result.0 c.first_name-name_at.result.1.now c.first_name-name_at.result.2 c.first_name-name_at.result.3.now is c.first_name-name_at.ensures
    (all_have c.loop-part.part-index c.first_name-name_at.result.3.now (omega arith) c.loop-part.invariant.ints))
    (all_written (no_more_parts c.first_name-name_at.result.3.now c.loop-part.part-index (omega arith) written))

pub returns-in-Err-clause-table : goal.returns-in-Err-clause-table
returns-in-Err-clause-table c = first_stops (Tree Value) c.args.strings.now c.args.parts.now c.first_name-name_at.result.3.now c.first_name-name_at.result.0 c.first_name-name_at.result.1.now c.first_name-name_at.result.2 c.first_name-name_at.ensures
    c.first_node-first.new.strings c.in-Err.e c.in-Err.ensures.read

pub returns-in-Err-write_part-clause-table : goal.returns-in-Err-write_part-clause-table
returns-in-Err-write_part-clause-table c = later_stops (Tree Value) c.args.strings.now c.args.parts.now c.first_name-name_at.result.3.now c.first_name-name_at.result.0 c.first_name-name_at.result.1.now c.first_name-name_at.result.2 c.first_name-name_at.ensures
    c.loop-part.part-index c.part-item.result c.loop-part.strings c.write_part.new.strings (length c.loop-part.tree) c.in-Err-write_part.e (omega arith) c.part-item.is c.loop-part.invariant.so_far c.in-Err-write_part.ensures.read

pub returns-clause-table : goal.returns-clause-table
returns-clause-table c = all_read c.args.strings.now c.args.parts.now c.first_name-name_at.result.3.now c.first_name-name_at.result.0 c.first_name-name_at.result.1.now c.first_name-name_at.result.2 c.first_name-name_at.ensures
    (Tree Value) c.loop-part.part-index (length c.loop-part.tree) c.loop-part.strings c.loop-part.tree (omega arith) c.loop-part.invariant.so_far

pub returns-in-Err-clause-few_texts : goal.returns-in-Err-clause-few_texts
returns-in-Err-clause-few_texts c =
    let (at, is) = first_of_all c.args.parts.now c.first_name-name_at.result.0 c.first_name-name_at.result.1.now c.first_name-name_at.result.2 c.first_name-name_at.result.3.now c.first_name-name_at.ensures in
    omega (arith, ap length is, c.first_node-first.ensures.few_texts)

pub returns-in-Err-write_part-clause-few_texts : goal.returns-in-Err-write_part-clause-few_texts
returns-in-Err-write_part-clause-few_texts c =
    let (at, is) = first_of_all c.args.parts.now c.first_name-name_at.result.0 c.first_name-name_at.result.1.now c.first_name-name_at.result.2 c.first_name-name_at.result.3.now c.first_name-name_at.ensures in
    omega (arith, ap length is, c.loop-part.invariant.so_far.few, c.write_part.ensures.few_texts)

pub returns-clause-few_texts : goal.returns-clause-few_texts
returns-clause-few_texts c =
    let (at, is) = first_of_all c.args.parts.now c.first_name-name_at.result.0 c.first_name-name_at.result.1.now c.first_name-name_at.result.2 c.first_name-name_at.result.3.now c.first_name-name_at.ensures in
    omega (arith, ap length is, c.loop-part.invariant.so_far.few)

pub loop-part-init : goal.loop-part-init
loop-part-init c = record {
  written = search rules;
  ints = search rules;
  few_nodes = search rules;
  so_far = one_read c.args.strings.now c.args.parts.now c.first_name-name_at.result.3.now c.first_name-name_at.result.0 c.first_name-name_at.result.1.now c.first_name-name_at.result.2 c.first_name-name_at.ensures
      c.first_node-first.new.strings (length c.in-Ok-first.first.0) c.in-Ok-first.ensures.count c.first_node-first.ensures.few_texts (c.in-Ok-first.ensures.read 0);
  kept = search rules;
}
