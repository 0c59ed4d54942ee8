use Rattle.std.specs.Prelude.{None}
use Rattle.std.proofs.Common.{sym, ◌∙◌}
use Rattle.lido_base.proofs.Lists.{contains-nil}
use Rattle.lido_syntax.specs.Computation.{Message}
use Rattle.expr_types.specs.Computations.{IsTyped}
use Rattle.trials_of_types.specs.Writing.{message, number}
use Rattle.trials_of_types.proofs.CallTrialLemmas.{int-str}
use Rattle.trials_of_types.proofs.computations.typed_specifications.Goals as goal

pub returns : goal.returns
returns c = record {
  without_rules = λ sets env r m. absurd (contains-nil r m);
  int_as_text = λ spec sets env r k s j holder m i typed.
      let one : IsTyped spec sets env holder r s (Message j) (message None (number 1)) = typed r m k s (Message j) holder (message None (number 1)) i in
      int-str (sym one.value ∙ one.takes);
}
