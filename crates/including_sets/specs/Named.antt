-- What the faults of the tables exclude beside.
use Rattle.std.specs.Prelude.{◌≡◌, ℕ, IsTrue, List, Contains}
use Rattle.lido_base.specs.declared.value.ValueType.{ValueType}
use Rattle.lido_syntax.specs.declared.spec.Spec.{Spec}
use Rattle.lido_syntax.specs.declared.spec.Pair.{Pair}
use Rattle.lido_syntax.specs.Production.{name_of}
use Rattle.lido_syntax.specs.Symbols.{IsChain}
use Rattle.lido_syntax.specs.Attributes.{HasType}
use Rattle.lido_symbols.specs.Uses.{all_includings}
use Rattle.rule_tables.specs.Flat.{IsListedType}
use Rattle.rule_tables.specs.Needs.{Tables, uses_including}

-- No pair of an INCLUDING names a chain, and an attribute has one type.
pub record AreNamed (spec : Spec) : Type 0 where
  pub chains : (x : ℕ × List Pair) (p : Pair) → Contains (all_includings spec) x → Contains x.1 p → ¬ IsChain spec (name_of p.attr)
  pub types : (s a : ℕ) (ty other : ValueType) → HasType spec s a ty → HasType spec s a other → ty ≡ other

-- What a set that is used anywhere lists has one type.
abbrev pub AreListed : (spec : Spec) → Tables spec → Type 0
AreListed spec T = (pairs : List Pair) (x : ℕ) → Contains T.includings pairs → IsTrue (uses_including spec T pairs x)
    → (ty : ValueType) × IsListedType spec T pairs ty
