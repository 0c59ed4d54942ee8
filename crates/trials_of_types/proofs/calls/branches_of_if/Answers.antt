use Rattle.std.specs.Prelude.{[], ◌∷◌, true, refl}
use Rattle.std.proofs.Common.{arith}
use Rattle.lido_base.specs.declared.value.ValueType.TheVariants as type
use Rattle.expr_types.specs.Typing.{WithRows, choices}
use Rattle.expr_types.proofs.CallLemmas.{no-call, has-call}
use Rattle.trials_of_types.specs.Writing.{functions, named, number, string, truth}
use Rattle.trials_of_types.proofs.CallTrialLemmas.{alike, int-str}
use Rattle.trials_of_types.proofs.calls.branches_of_if.Goals as goal

pub returns : goal.returns
returns c = record {
  of_one_type = λ spec sets holder r own. has-call spec sets functions holder r own (named 0) (truth true ∷ number 1 ∷ number 2 ∷ [])
      (type.Bool ∷ type.Int ∷ type.Int ∷ []) (WithRows choices) (refl, (refl, (refl, tt))) refl type.Int (0, (omega arith), refl);
  of_two_types = λ spec sets holder r own ty h. no-call spec sets functions holder r own (named 0) (truth true ∷ number 1 ∷ string ∷ [])
      (type.Bool ∷ type.Int ∷ type.Str ∷ []) (WithRows choices) ((λ u e. e), ((λ u e. e), ((λ u e. e), tt))) refl ty
      (λ m. int-str (alike (type.Bool ∷ type.Int ∷ type.Str ∷ []) ty m)) h;
}
