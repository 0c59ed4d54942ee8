use Rattle.std.specs.Prelude.{[], ◌∷◌, refl}
use Rattle.lido_base.specs.declared.value.ValueType.TheVariants as type
use Rattle.lido_base.specs.Types.{of_types}
use Rattle.expr_types.specs.Typing.{WithRows}
use Rattle.expr_types.proofs.CallLemmas.{gives-of}
use Rattle.trials_of_types.specs.Writing.{functions, named}
use Rattle.trials_of_types.proofs.CallTrialLemmas.{one-int}
use Rattle.trials_of_types.proofs.remote.comb_with_one_argument.Goals as goal

pub returns : goal.returns
returns c = λ spec sets pairs single null ty h.
    absurd (one-int (type.Int ∷ type.Int ∷ []) type.Int (gives-of functions (named 3) (WithRows (of_types (type.Int ∷ []) type.Int ∷ [])) (type.Int ∷ type.Int ∷ []) type.Int refl h.0.comb))
