use Rattle.std.proofs.Common.{subst, sym}
use Rattle.lido_computations.specs.Functions.{Keeps}
use Rattle.lido_computations.proofs.FunctionsLemmas.{keeps_none, function_kept}
use Rattle.lido_computations.proofs.operators.function_name.Goals as goal

pub returns-in-Ok-clause-same : goal.returns-in-Ok-clause-same
returns-in-Ok-clause-same c = λ is_one. subst (Keeps c.args.strings.now) (sym c.in-Ok.ensures.texts) (function_kept c.args.strings.now c.args.function.now is_one)

pub returns-in-Err-clause-same : goal.returns-in-Err-clause-same
returns-in-Err-clause-same c = λ is_one. subst (Keeps c.args.strings.now) (sym c.in-Err.ensures.refused) (keeps_none c.args.strings.now)
