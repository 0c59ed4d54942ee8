-- What is declared gives attributes, terminals and chains one type at most.
use Rattle.std.specs.Prelude.{◌≡◌, ℕ}
use Rattle.lido_base.specs.declared.value.ValueType.{ValueType}
use Rattle.lido_syntax.specs.declared.spec.Spec.{Spec}
use Rattle.lido_syntax.specs.Symbols.{IsTerminal, IsTypedChain}
use Rattle.lido_syntax.specs.Attributes.{HasType}

pub record AreSingleTypes (spec : Spec) : Type 0 where
  pub attribute : (s a : ℕ) (ty other : ValueType) → HasType spec s a ty → HasType spec s a other → ty ≡ other
  pub terminal : (s : ℕ) (ty other : ValueType) → IsTerminal spec s ty → IsTerminal spec s other → ty ≡ other
  pub chain : (c : ℕ) (ty other : ValueType) → IsTypedChain spec c ty → IsTypedChain spec c other → ty ≡ other
