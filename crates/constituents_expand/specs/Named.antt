-- What the faults of the tables exclude beside.
use Rattle.std.specs.Prelude.{◌≡◌, ℕ, Contains}
use Rattle.lido_base.specs.declared.value.ValueType.{ValueType}
use Rattle.lido_syntax.specs.declared.spec.Spec.{Spec}
use Rattle.lido_syntax.specs.declared.spec.Cons.{Cons}
use Rattle.lido_syntax.specs.declared.spec.Pair.{Pair}
use Rattle.lido_syntax.specs.Production.{name_of}
use Rattle.lido_syntax.specs.Symbols.{IsChain}
use Rattle.lido_syntax.specs.Attributes.{HasType}
use Rattle.lido_symbols.specs.Uses.{all_constituents}

-- No pair of a CONSTITUENTS names a chain, and an attribute has one type.
pub record AreNamed (spec : Spec) : Type 0 where
  pub chains : (k : ℕ × Cons) (p : Pair) → Contains (all_constituents spec) k → Contains k.1.pairs p → ¬ IsChain spec (name_of p.attr)
  pub types : (s a : ℕ) (ty other : ValueType) → HasType spec s a ty → HasType spec s a other → ty ≡ other
