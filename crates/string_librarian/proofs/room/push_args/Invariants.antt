use Rattle.std.proofs.Common.{◌≡◌, ◌+◌, ◌++◌, map, take, vec_len, vec_capacity}
use Rattle.string_librarian.specs.declared.room.Cell.TheVariants.{Arg}
use Rattle.string_librarian.proofs.room.push_args.Given as goal

abbrev pub invariant-loop-arg : goal.invariant-loop-arg
invariant-loop-arg l = record {
  items : l.cells.items ≡ l.fn.cells.items ++ map Arg (take l.arg-index l.args);
  len : vec_len l.cells ≡ vec_len l.fn.cells + l.arg-index;
  capacity : vec_capacity l.cells ≡ vec_capacity l.fn.cells;
}
