-- Names that are declared with two types.
use Rattle.std.specs.Prelude.{◌≡◌, ℕ, ◌<◌, ◌⊎◌, IsTrue, List, Contains}
use Rattle.lido_base.specs.declared.value.ValueType.{ValueType}
use Rattle.lido_syntax.specs.declared.spec.Spec.{Spec}
use Rattle.lido_syntax.specs.declared.spec.Typed1.{Typed1}
use Rattle.lido_syntax.specs.Production.{name_of}
use Rattle.lido_syntax.specs.Symbols.{IsNonterminal}
use Rattle.lido_symbols.specs.Classes.{IsClass}
use Rattle.kind_clashes.specs.declared.firsts.Firsts.{Firsts}
use Rattle.kind_clashes.specs.declared.sets.NameSets.{NameSets}
use Rattle.kind_clashes.specs.Firsts.{IsAt, IsBehind}
use Rattle.kind_clashes.specs.Names.{has}

-- of another type, with its name and place
abbrev pub IsOther : ValueType → Typed1 → ℕ → ℕ → Type 0
IsOther ty x id at = (x.ty ≡ ty → ⊥) × IsAt x.name id at

-- of this type, behind what is noted
abbrev pub IsTypedBehind : ValueType → Firsts → Typed1 → ℕ → Type 0
IsTypedBehind ty firsts x at = (x.ty ≡ ty) × IsBehind firsts x.name × (at ≡ x.name.at)

-- the later of two declarations of one name with two types
pub record IsSecondType (typed : List Typed1) (at : ℕ) : Type 0 where
  pub first : Typed1
  pub second : Typed1
  pub there : Contains typed first
  pub behind : Contains typed second
  pub same : name_of first.name ≡ name_of second.name
  pub other : first.ty ≡ second.ty → ⊥
  pub before : first.name.at < second.name.at
  pub place : at ≡ second.name.at

-- the later one has this type
pub record IsSecondOfType (typed : List Typed1) (ty : ValueType) (at : ℕ) : Type 0 where
  pub is : IsSecondType typed at
  pub of : is.second.ty ≡ ty

-- a name that is a class or stands on a left side
abbrev pub IsMisnamed : NameSets → Typed1 → ℕ → Type 0
IsMisnamed sets x at = (IsTrue (has sets.classes (name_of x.name)) ⊎ IsTrue (has sets.nonterminals (name_of x.name))) × (at ≡ x.name.at)

-- a terminal's declaration whose name is a class or stands on a left side, or had another type before
pub record IsFaultyTerm (spec : Spec) (at : ℕ) : Type 0 where
  pub term : Typed1
  pub there : Contains spec.terms term
  pub place : at ≡ term.name.at
  pub how : IsClass spec (name_of term.name) ⊎ IsNonterminal spec (name_of term.name)
      ⊎ ((e : Typed1) × Contains spec.terms e × (name_of e.name ≡ name_of term.name) × (e.ty ≡ term.ty → ⊥) × (e.name.at < at))
