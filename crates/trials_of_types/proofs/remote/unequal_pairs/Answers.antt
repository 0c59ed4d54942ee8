use Rattle.std.specs.Prelude.{[], ◌∷◌, refl}
use Rattle.std.proofs.Common.{sym, ◌∙◌, arith}
use Rattle.std.proofs.lemmas.List.Elements.{All-contains}
use Rattle.expr_types.specs.Typing.{IsPairType}
use Rattle.trials_of_types.specs.Writing.{declared, pair}
use Rattle.trials_of_types.proofs.CallTrialLemmas.{int-str}
use Rattle.trials_of_types.proofs.DeclaredLemmas.{int_there, str_there}
use Rattle.trials_of_types.proofs.remote.unequal_pairs.Goals as goal

pub returns : goal.returns
returns c = λ sets env holder r own at ty h.
    let int : IsPairType declared sets ty (pair 0) = All-contains (IsPairType declared sets ty) (pair 0 ∷ pair 1 ∷ []) (pair 0) h (0, (omega arith), refl) in
    let str : IsPairType declared sets ty (pair 1) = All-contains (IsPairType declared sets ty) (pair 0 ∷ pair 1 ∷ []) (pair 1) h (1, (omega arith), refl) in
    int-str (sym (int_there 0 ty int.0) ∙ str_there 0 ty str.0)
