use Rattle.std.specs.Prelude.{◌≡◌, refl}
use Rattle.std.proofs.Common.{sym, ◌∙◌, subst}
use Rattle.std.proofs.lemmas.List.Elements.{All-nil}
use Rattle.lido_base.specs.declared.value.ValueType.{ValueType}
use Rattle.lido_base.specs.declared.value.ValueType.TheVariants as type
use Rattle.expr_types.specs.Typing.{HasExprType}
use Rattle.trials_of_types.proofs.CallTrialLemmas.{int-str, IsInt}
use Rattle.trials_of_types.proofs.computations.plain_computations.Goals as goal

bool-int : type.Bool ≡ type.Int → ⊥
bool-int e = subst IsInt (sym e) tt

pub returns : goal.returns
returns c = record {
  text = λ spec sets env holder r own. record { condition = tt; ty = type.Str; value = refl; takes = refl; after = All-nil (λ e. (other : ValueType) × HasExprType spec sets env holder r own e other) };
  int_as_text = λ spec sets env holder r own h. int-str (sym h.value ∙ h.takes);
  int_as_condition = λ spec sets env holder r own h. bool-int h.condition;
}
