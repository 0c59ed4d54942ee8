use Rattle.std.specs.Prelude.{◌≡◌, ◌⊎◌, refl}
use Rattle.std.proofs.Common.{sym, ◌∙◌, subst, inl, inr, arith}
use Rattle.lido_base.specs.declared.value.ValueType.{ValueType}
use Rattle.lido_base.specs.declared.value.ValueType.TheVariants as type
use Rattle.trials_of_types.specs.Writing.{named}
use Rattle.trials_of_types.proofs.CallTrialLemmas.{int-str, IsInt}
use Rattle.trials_of_types.proofs.DeclaredLemmas.{chain_void, void_there, int_there}
use Rattle.trials_of_types.proofs.computations.goals_and_types.Goals as goal

not_str : (wanted : ValueType) → wanted ≡ type.Int → (wanted ≡ type.Void) ⊎ (type.Str ≡ wanted) → ⊥
not_str wanted e (inl v) = subst IsInt (sym e ∙ v) tt
not_str wanted e (inr v) = int-str (sym (v ∙ e))

pub returns : goal.returns
returns c = record {
  start = λ own ty h. chain_void ty h;
  behind = λ own ty h. chain_void ty h;
  void_chain = λ own. (record { name = named 2; ty = type.Void }, (0, (omega arith), refl), refl, refl);
  void_attribute = λ own ty. (type.Void, void_there own, inl refl);
  int_attribute = λ own h. not_str (h.0) (int_there own h.0 h.1) h.2;
}
