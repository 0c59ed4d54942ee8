use Rattle.std.specs.Prelude.{[], ◌∷◌, refl}
use Rattle.std.proofs.lemmas.Option.{none-some}
use Rattle.lido_base.specs.declared.value.ValueType.TheVariants as type
use Rattle.expr_types.specs.Typing.{Order}
use Rattle.expr_types.proofs.CallLemmas.{no-call, has-call}
use Rattle.trials_of_types.specs.Writing.{functions, named, number, string}
use Rattle.trials_of_types.proofs.CallTrialLemmas.{some-types, int-str}
use Rattle.trials_of_types.proofs.calls.last_of_order.Goals as goal

pub returns : goal.returns
returns c = record {
  last = λ spec sets holder r own. has-call spec sets functions holder r own (named 1) (string ∷ number 1 ∷ [])
      (type.Str ∷ type.Int ∷ []) Order (refl, (refl, tt)) refl type.Int refl;
  not_first = λ spec sets holder r own h. no-call spec sets functions holder r own (named 1) (string ∷ number 1 ∷ [])
      (type.Str ∷ type.Int ∷ []) Order ((λ u e. e), ((λ u e. e), tt)) refl type.Str (λ e. int-str (some-types type.Int type.Str e)) h;
  empty = λ spec sets holder r own ty h. no-call spec sets functions holder r own (named 1) [] [] Order tt refl ty (λ e. none-some _ e) h;
}
