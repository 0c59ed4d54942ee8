use Rattle.std.specs.Prelude.{◌∷◌, ◌++◌}
use Rattle.expr_types.specs.Typing.{HasExprType}
use Rattle.expr_types.proofs.CallLemmas.{types-Call}
use Rattle.trials_of_types.proofs.CallTrialLemmas.{nested}
use Rattle.trials_of_types.proofs.calls.nested_faults.Goals as goal

pub returns : goal.returns
returns c = λ spec sets env holder r own f before e after none ty h.
    let list = types-Call spec sets env holder r own f (before ++ e ∷ after) ty h in
    nested (HasExprType spec sets env holder r own) before e after none list.0 list.1
