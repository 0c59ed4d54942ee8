use Rattle.std.specs.Prelude.{refl}
use Rattle.lido_base.specs.Operations.{operate}
use Rattle.lido_syntax.proofs.ExpressionLemmas.{value-Call}
use Rattle.trials_of_syntax.specs.Writing.{env}
use Rattle.trials_of_syntax.proofs.expressions.values_of_expressions.Goals as goal

pub returns : goal.returns
unfolding operate
returns c = record {
  branch = λ spec sets t A h r number n tail. simp (value-Call spec sets env t A h r number n tail) refl;
  difference = λ spec sets t A h r number n tail. simp (value-Call spec sets env t A h r number n tail) refl;
  remainder = λ spec sets t A h r number n tail. simp (value-Call spec sets env t A h r number n tail) refl;
  fails = λ spec sets t A h r number n tail. simp (value-Call spec sets env t A h r number n tail) refl;
  first = λ spec sets t A h r number n tail. simp (value-Call spec sets env t A h r number n tail) refl;
}
