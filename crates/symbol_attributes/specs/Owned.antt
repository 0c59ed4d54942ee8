-- The attributes that a symbol has, its own and those of its classes, by what is named on which symbol.
use Rattle.std.specs.Prelude.{◌≡◌, ℕ, ◌||◌, Bool, nat_eq, IsTrue, List}
use Rattle.lido_syntax.specs.declared.spec.Spec.{Spec}
use Rattle.lido_syntax.specs.Attributes.{Has}
use Rattle.kind_clashes.specs.declared.names.Names.{Names}
use Rattle.kind_clashes.specs.Names.{IsSetOf}
use Rattle.symbol_attributes.specs.Inheritance.{number, is_heir, IsInheritance}
use Rattle.symbol_attributes.specs.Named.{AreNamed}
use Rattle.symbol_attributes.specs.declared.inheritance.Inheritance.{Inheritance}
use Rattle.symbol_attributes.specs.declared.named.SymbolAttribute.{SymbolAttribute}

-- what is named on the other symbol is an attribute of s too: it is s, or a class that s inherits
abbrev pub is_passed : Inheritance → List ℕ → ℕ → ℕ → Bool
is_passed inheritance names s other = nat_eq s other || is_heir inheritance (number names s) (number names other)

-- it names the attribute a on s or on a class that s inherits
abbrev pub IsPassed : Inheritance → List ℕ → ℕ → SymbolAttribute → ℕ → Type 0
IsPassed inheritance names s x a = IsTrue (is_passed inheritance names s x.symbol.0) × (x.attribute.0 ≡ a)

-- Where the list is that of a specification, and the rows are those of its inheritance, the set has the attributes of s.
abbrev pub AreAttributes : List SymbolAttribute → List ℕ → Inheritance → ℕ → Names → Type 0
AreAttributes list names inheritance s set = (spec : Spec) → AreNamed spec list → IsInheritance spec names inheritance → IsSetOf (Has spec s) set
