use Rattle.std.proofs.Common.{◌≡◌, ◌||◌}
use Rattle.std.specs.Prelude.{take}
use Rattle.flat_grammar.specs.declared.flat.Occ.{Occ}
use Rattle.sequence_checker.specs.Sets.{has, is_one_of}
use Rattle.sequence_checker.proofs.progress.add_all.Given as goal

abbrev pub invariant-loop-attr : goal.invariant-loop-attr
invariant-loop-attr l = (o : Occ) → has l.set o ≡ (has l.initial.set o || is_one_of l.occ (take l.attr-index l.attrs) o)
