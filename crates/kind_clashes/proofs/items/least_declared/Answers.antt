use Rattle.std.proofs.Common.{arith, refl, sym}
use Rattle.std.proofs.lemmas.Option.{slice_get-get_or}
use Rattle.kind_clashes.proofs.LeastLemmas.{first-one, first-step, first-end}
use Rattle.kind_clashes.proofs.items.least_declared.Goals as goal

pub loop-decl-preserved : goal.loop-decl-preserved
loop-decl-preserved c = first-step _ (slice_get-get_or _ _ _ c.loop-decl-test.true) c.earlier-least.ensures c.loop-decl.invariant (first-one _ refl (λ other e. sym e))

pub returns : goal.returns
returns c = first-end (omega arith) c.loop-decl.invariant
