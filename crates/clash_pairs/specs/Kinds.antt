-- Attributes that are said to have two kinds.
use Rattle.std.specs.Prelude.{◌≡◌, ℕ, ◌≤◌, List, Some, Contains}
use Rattle.lido_base.specs.declared.kinds.Kind.{Kind}
use Rattle.lido_syntax.specs.declared.spec.Name.{Name}
use Rattle.lido_syntax.specs.Production.{name_of}
use Rattle.kind_clashes.specs.declared.firsts.Firsts.{Firsts}
use Rattle.kind_clashes.specs.Firsts.{first_of, IsAt}
use Rattle.clash_pairs.specs.declared.kinds.SaidKind.{SaidKind}

-- of another kind, with its name and place
abbrev pub IsOtherKind : Kind → SaidKind → ℕ → ℕ → Type 0
IsOtherKind kind x id at = (x.kind ≡ kind → ⊥) × IsAt x.attr id at

-- the name is noted at its place or in front of it
abbrev pub IsReached : Firsts → Name → Type 0
IsReached firsts x = (first : ℕ) × (first_of firsts (name_of x) ≡ Some first) × (first ≤ x.at)

-- of this kind, not in front of what is noted
abbrev pub IsKindReached : Kind → Firsts → SaidKind → ℕ → Type 0
IsKindReached kind firsts x at = (x.kind ≡ kind) × IsReached firsts x.attr × (at ≡ x.attr.at)

-- two kinds of one attribute, at the later place or at the one place of both
pub record IsSecondKind (said : List SaidKind) (at : ℕ) : Type 0 where
  pub first : SaidKind
  pub second : SaidKind
  pub there : Contains said first
  pub behind : Contains said second
  pub same : name_of first.attr ≡ name_of second.attr
  pub other : first.kind ≡ second.kind → ⊥
  pub before : first.attr.at ≤ second.attr.at
  pub place : at ≡ second.attr.at

-- the later one is this kind
pub record IsSecondOfKind (said : List SaidKind) (kind : Kind) (at : ℕ) : Type 0 where
  pub is : IsSecondKind said at
  pub of : is.second.kind ≡ kind
