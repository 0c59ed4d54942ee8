-- Classes in productions, terminals in lists and names behind INHERITS that are no classes, by the sets of names.
use Rattle.std.specs.Prelude.{◌≡◌, ℕ, ◌⊎◌, Some, IsTrue}
use Rattle.lido_syntax.specs.declared.spec.Name.{Name}
use Rattle.lido_syntax.specs.declared.spec.Element.{Element}
use Rattle.lido_syntax.specs.declared.spec.RuleItem.{RuleItem}
use Rattle.lido_syntax.specs.declared.spec.SymbolItem.{SymbolItem}
use Rattle.lido_syntax.specs.Production.{name_of}
use Rattle.lido_symbols.specs.Uses.{element_name}
use Rattle.kind_clashes.specs.declared.names.Names.{Names}
use Rattle.kind_clashes.specs.declared.sets.NameSets.{NameSets}
use Rattle.kind_clashes.specs.Least.{Among}
use Rattle.kind_clashes.specs.Names.{has}
use Rattle.kind_clashes.specs.Sets.{is_terminal_in}

-- the element is a symbol whose name is in the set
abbrev pub IsElementIn : Names → Element → ℕ → Type 0
IsElementIn names e at = (x : Name) × (element_name e ≡ Some x) × IsTrue (has names (name_of x)) × (at ≡ x.at)

-- a class on the left side or the right
abbrev pub IsClassInProduction : NameSets → RuleItem → ℕ → Type 0
IsClassInProduction sets r at = (IsTrue (has sets.classes (name_of r.left)) × (at ≡ r.left.at)) ⊎ Among (IsElementIn sets.classes) r.right at

-- the element is a terminal
abbrev pub IsTerminalElement : NameSets → Element → ℕ → Type 0
IsTerminalElement sets e at = (x : Name) × (element_name e ≡ Some x) × IsTrue (is_terminal_in sets (name_of x)) × (at ≡ x.at)

abbrev pub IsTerminalInList : NameSets → RuleItem → ℕ → Type 0
IsTerminalInList sets r at = IsTrue r.list × Among (IsTerminalElement sets) r.right at

abbrev pub InheritsNoClass : NameSets → SymbolItem → ℕ → Type 0
InheritsNoClass sets item = Among (λ (x : Name) at. ¬ IsTrue (has sets.classes (name_of x)) × (at ≡ x.at)) item.inherits
