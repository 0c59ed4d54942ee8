use Rattle.std.proofs.Common.{◌≡◌, take, flat_map}
use Rattle.sequence_checker.specs.Rows.{class_part}
use Rattle.sequence_checker.proofs.rows.attributes_of_kind.Given as goal

abbrev pub invariant-loop-class : goal.invariant-loop-class
invariant-loop-class l = l.attrs.items ≡ flat_map (class_part l.kind) (take l.class-index l.row)
