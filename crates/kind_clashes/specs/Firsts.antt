-- The first places of names.
use Rattle.std.specs.Prelude.{◌≡◌, ℕ, ◌<◌, nat_eq, Option, Some}
use Rattle.std.specs.HashMap as table
use Rattle.lido_syntax.specs.declared.spec.Name.{Name}
use Rattle.lido_syntax.specs.Production.{name_of}
use Rattle.kind_clashes.specs.declared.firsts.Firsts.{Firsts}
use Rattle.kind_clashes.specs.Least.{IsFirst, earlier_of}

-- the place that is noted of the name
unfoldable pub first_of : Firsts → ℕ → Option ℕ
first_of firsts id = table.get nat_eq firsts.places id

-- It has of each name the least of the places where this is so.
pub record AreFirsts (P : ℕ → ℕ → Type 0) (firsts : Firsts) : Type 0 where
  pub each : (id : ℕ) → IsFirst (P id) (first_of firsts id)

-- what is noted more of a name: the least of the places where this is so
pub record IsNoted (P : ℕ → Type 0) (earlier later : Option ℕ) : Type 0 where
  pub noted : Option ℕ
  pub first : IsFirst P noted
  pub is : later ≡ earlier_of earlier noted

pub record HasNoted (P : ℕ → ℕ → Type 0) (earlier later : Firsts) : Type 0 where
  pub each : (id : ℕ) → IsNoted (P id) (first_of earlier id) (first_of later id)

-- the name, at its place
abbrev pub IsAt : Name → ℕ → ℕ → Type 0
IsAt x id at = (name_of x ≡ id) × (at ≡ x.at)

-- the name is noted at a place in front of it
abbrev pub IsBehind : Firsts → Name → Type 0
IsBehind firsts x = (first : ℕ) × (first_of firsts (name_of x) ≡ Some first) × (first < x.at)
