use Rattle.std.proofs.Common.{◌≡◌, ◌+◌, ◌≤◌, ℕ, List, Option, drop, take, length}
use Rattle.tree_reader.specs.Ints.{HaveInts}
use Rattle.lido_lexer.specs.Lexing.{Gains}
use Rattle.tree_reader.specs.Language.{Forest, node, none, parts_of}
use Rattle.tree_reader.specs.declared.part.Coordinates.{Coordinates}
use Rattle.tree_reader.specs.Asking.{asked}
use Rattle.tree_reader.specs.WrittenTrees.{meaning, most_nodes}
use Rattle.tree_reader.specs.Writing.{IsWritten}
use Rattle.tree_reader.proofs.TablesOfParts.{SoFar}
use Rattle.tree_reader.proofs.writer.write_tree.Given as goal

abbrev pub invariant-loop-part : goal.invariant-loop-part
invariant-loop-part l = record {
  written : (at : ℕ) × (name_at : ℕ) × (name : List ℕ) × (coordinates : Option Coordinates) × (below : Forest) × (end : ℕ) × (l.parts ≡ parts_of (node at name_at name coordinates below end none))
      × IsWritten (asked l.flat.symbols l.flat.rules l.flat.shapes l.flat.root l.fn.strings) l.strings l.tree (length l.flat.shapes) l.part-index l.current l.outer (drop l.part-index l.rest)
      (meaning (asked l.flat.symbols l.flat.rules l.flat.shapes l.flat.root l.fn.strings) name_at name coordinates below end);
  ints : HaveInts (take l.part-index l.rest);
  few_nodes : length l.tree ≤ most_nodes;
  so_far : SoFar l.fn.strings l.parts (l.part-index + 1) (length l.tree) l.strings;
  kept : Gains l.fn.strings l.strings;
}
