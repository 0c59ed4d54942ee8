use Rattle.std.proofs.Common.{take}
use Rattle.std.specs.Prelude.{Some}
use Rattle.sequence_checker.specs.Rows.{HasMembers}
use Rattle.sequence_checker.proofs.rows.members.Given as goal

abbrev pub invariant-loop-attr : goal.invariant-loop-attr
invariant-loop-attr l = HasMembers l.symbol l.kind (take l.attr-index l.attrs) (Some l.set)
