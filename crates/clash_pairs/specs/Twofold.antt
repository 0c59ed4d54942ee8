-- Two kinds or two types of an attribute, symbol by symbol.
use Rattle.std.specs.Prelude.{ℕ, ◌⊎◌, ◌||◌, Bool, nat_eq, if◌then◌else◌, List, [], ◌∷◌, ◌++◌, map, flat_map, Option, Some, None}
use Rattle.lido_base.specs.declared.kinds.Kind.{Kind}
use Rattle.lido_syntax.specs.declared.spec.Decl.{Decl}
use Rattle.lido_syntax.specs.declared.spec.Name.{Name}
use Rattle.lido_syntax.specs.declared.spec.Typed1.{Typed1}
use Rattle.kind_clashes.specs.Least.{Among}
use Rattle.kind_clashes.specs.Types.{IsSecondType}
use Rattle.symbol_attributes.specs.Inheritance.{number, is_heir}
use Rattle.symbol_attributes.specs.declared.inheritance.Inheritance.{Inheritance}
use Rattle.clash_pairs.specs.Kinds.{IsSecondKind}
use Rattle.clash_pairs.specs.declared.items.KindFact.{KindFact}
use Rattle.clash_pairs.specs.declared.items.TypeFact.{TypeFact}
use Rattle.clash_pairs.specs.declared.kinds.SaidKind.{SaidKind}
use Rattle.clash_pairs.specs.declared.pairs.Facts.{Facts}

-- what ATTR says
abbrev pub said_if_any : Name → Option Kind → List SaidKind
said_if_any a None = []
said_if_any a (Some kind) = record { attr = a; kind = kind } ∷ []

abbrev pub attr_kinds : List Decl → List SaidKind
attr_kinds attrs = flat_map (λ (d : Decl). said_if_any d.attr d.kind) attrs

abbrev pub typed_decl : Decl → Typed1
typed_decl d = record { name = d.attr; ty = d.ty }

abbrev pub attr_types : List Decl → List Typed1
attr_types attrs = map typed_decl attrs

-- The symbol u has what is said on y: it is y, or inherits y.
abbrev pub passes : Inheritance → ℕ → ℕ → Bool
passes inheritance u y = nat_eq u y || is_heir inheritance u y

abbrev pub kind_if_passed : Inheritance → ℕ → KindFact → List SaidKind
kind_if_passed inheritance u f = if passes inheritance u f.symbol then f.said ∷ [] else []

abbrev pub type_if_passed : Inheritance → ℕ → TypeFact → List Typed1
type_if_passed inheritance u f = if passes inheritance u f.symbol then f.typed ∷ [] else []

-- all that is said of the attributes of symbol u
abbrev pub kinds_on : Inheritance → Facts → ℕ → List SaidKind
kinds_on inheritance facts u = facts.attrs.items ++ flat_map (kind_if_passed inheritance u) facts.kinds.items

abbrev pub types_on : Inheritance → Facts → ℕ → List Typed1
types_on inheritance facts u = flat_map (type_if_passed inheritance u) facts.types.items

abbrev pub IsTwofoldOn : Inheritance → Facts → ℕ → ℕ → Type 0
IsTwofoldOn inheritance facts u at = IsSecondKind (kinds_on inheritance facts u) at ⊎ IsSecondType (types_on inheritance facts u) at

-- on one of the symbols
abbrev pub IsTwofoldOnAny : List ℕ → Inheritance → Facts → ℕ → Type 0
IsTwofoldOnAny names inheritance facts = Among (λ s. IsTwofoldOn inheritance facts (number names s)) names
