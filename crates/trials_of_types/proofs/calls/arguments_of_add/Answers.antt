use Rattle.std.specs.Prelude.{[], ◌∷◌, refl}
use Rattle.std.proofs.Common.{arith}
use Rattle.lido_base.specs.declared.value.ValueType.TheVariants as type
use Rattle.lido_base.specs.Types.{of_types}
use Rattle.expr_types.specs.Typing.{WithRows}
use Rattle.expr_types.proofs.CallLemmas.{no-call, has-call}
use Rattle.trials_of_types.specs.Writing.{functions, named, number, string}
use Rattle.trials_of_types.proofs.CallTrialLemmas.{two-ints}
use Rattle.trials_of_types.proofs.calls.arguments_of_add.Goals as goal

pub returns : goal.returns
returns c = record {
  two = λ spec sets holder r own. has-call spec sets functions holder r own (named 2) (number 1 ∷ number 2 ∷ [])
      (type.Int ∷ type.Int ∷ []) (WithRows (of_types (type.Int ∷ type.Int ∷ []) type.Int ∷ [])) (refl, (refl, tt)) refl type.Int (0, (omega arith), refl);
  one = λ spec sets holder r own ty h. no-call spec sets functions holder r own (named 2) (number 1 ∷ [])
      (type.Int ∷ []) (WithRows (of_types (type.Int ∷ type.Int ∷ []) type.Int ∷ [])) ((λ u e. e), tt) refl ty
      (λ m. absurd (two-ints (type.Int ∷ []) ty m)) h;
  three = λ spec sets holder r own ty h. no-call spec sets functions holder r own (named 2) (number 1 ∷ number 2 ∷ number 3 ∷ [])
      (type.Int ∷ type.Int ∷ type.Int ∷ []) (WithRows (of_types (type.Int ∷ type.Int ∷ []) type.Int ∷ [])) ((λ u e. e), ((λ u e. e), ((λ u e. e), tt))) refl ty
      (λ m. absurd (two-ints (type.Int ∷ type.Int ∷ type.Int ∷ []) ty m)) h;
  of_string = λ spec sets holder r own ty h. no-call spec sets functions holder r own (named 2) (number 1 ∷ string ∷ [])
      (type.Int ∷ type.Str ∷ []) (WithRows (of_types (type.Int ∷ type.Int ∷ []) type.Int ∷ [])) ((λ u e. e), ((λ u e. e), tt)) refl ty
      (λ m. let both = two-ints (type.Int ∷ type.Str ∷ []) ty m in absurd both.1) h;
}
