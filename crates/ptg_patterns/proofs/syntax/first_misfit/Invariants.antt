use Rattle.std.proofs.Common.{take}
use Rattle.ptg_patterns.proofs.LanguageLemmas.{Arrives}
use Rattle.ptg_patterns.proofs.syntax.first_misfit.Given as goal

abbrev pub invariant-loop-i : goal.invariant-loop-i
invariant-loop-i l = Arrives l.state (take l.i l.marks)
