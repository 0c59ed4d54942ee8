-- The symbols and classes that have an attribute, by what is named on which symbol.
use Rattle.std.specs.Prelude.{ℕ, ◌&&◌, Bool, List}
use Rattle.std.specs.List.{list_any}
use Rattle.lido_syntax.specs.declared.spec.Spec.{Spec}
use Rattle.lido_syntax.specs.Attributes.{Has}
use Rattle.kind_clashes.specs.declared.names.Names.{Names}
use Rattle.kind_clashes.specs.Names.{has, IsSetOf}
use Rattle.symbol_attributes.specs.Inheritance.{number, is_heir, IsInheritance, AreNumberedIn}
use Rattle.symbol_attributes.specs.Named.{AreNamed}
use Rattle.symbol_attributes.specs.declared.inheritance.Inheritance.{Inheritance}
use Rattle.symbol_attributes.specs.declared.named.SymbolAttribute.{SymbolAttribute}

-- of the set is the class, and symbol u inherits it
abbrev pub is_owning_class : Names → List ℕ → Inheritance → ℕ → ℕ → Bool
is_owning_class owners names inheritance u class = has owners class && is_heir inheritance u (number names class)

abbrev pub has_owning_class : Names → List ℕ → Inheritance → ℕ → Bool
has_owning_class owners names inheritance u = list_any (is_owning_class owners names inheritance u) names

-- Where the list is that of a specification, and the rows are those of its inheritance, the set has who has an attribute.
abbrev pub AreBearers : List SymbolAttribute → List ℕ → Inheritance → Names → Type 0
AreBearers named names inheritance set =
    (spec : Spec) → AreNamed spec named → AreNumberedIn names spec.symbols → IsInheritance spec names inheritance → IsSetOf (λ s. (a : ℕ) × Has spec s a) set
