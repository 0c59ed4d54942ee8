-- Which symbols inherit which classes, as the code has it.
use Rattle.std.specs.Prelude.{ℕ, Bool}
use Rattle.lido_syntax.specs.declared.spec.Spec.{Spec}
use Rattle.symbol_attributes.specs.Inheritance.{number, is_heir, IsInheritance}
use Rattle.leaf_types.specs.declared.heirs.Heirs.{Heirs}

abbrev pub inherits : Heirs → ℕ → ℕ → Bool
inherits heirs s class = is_heir heirs.inheritance (number heirs.numbers s) (number heirs.numbers class)

-- it is that of the specification
abbrev pub AreHeirsOf : Spec → Heirs → Type 0
AreHeirsOf spec heirs = IsInheritance spec heirs.numbers heirs.inheritance
