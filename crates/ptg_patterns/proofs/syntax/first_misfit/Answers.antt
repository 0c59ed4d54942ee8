use Rattle.std.proofs.Common.{◌∙◌, sym}
use Rattle.ptg_patterns.specs.declared.marks.Mark.TheVariants.{Name}
use Rattle.ptg_patterns.proofs.LanguageLemmas.{arrives_at, misfit_at, misses, fits, all_taken}
use Rattle.ptg_patterns.proofs.syntax.first_misfit.Goals as goal

pub returns-in-None-clause-misfit : goal.returns-in-None-clause-misfit
returns-in-None-clause-misfit c = misfit_at c.loop-i.state c.args.marks.now c.loop-i.i (Name 0 (record { 0 = 0 })) c.loop-i-test.true c.loop-i.invariant (sym c.step.ensures ∙ c.in-None.is)

pub loop-i-preserved : goal.loop-i-preserved
loop-i-preserved c = arrives_at c.loop-i.state c.in-Some.next c.args.marks.now c.loop-i.i (Name 0 (record { 0 = 0 })) c.loop-i-test.true c.loop-i.invariant (sym c.step.ensures ∙ c.in-Some.is)

pub returns-then-ends-clause-fits : goal.returns-then-ends-clause-fits
returns-then-ends-clause-fits c = fits c.loop-i.state c.args.marks.now (all_taken c.loop-i.state c.args.marks.now c.loop-i.i c.loop-i-test.false c.loop-i.invariant) (sym c.ends.ensures ∙ c.if-ends.true)

pub returns-else-ends-clause-misfit : goal.returns-else-ends-clause-misfit
returns-else-ends-clause-misfit c = misses c.loop-i.state c.args.marks.now (all_taken c.loop-i.state c.args.marks.now c.loop-i.i c.loop-i-test.false c.loop-i.invariant) (sym c.ends.ensures ∙ c.if-ends.false)
