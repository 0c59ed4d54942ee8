-- Aims at places, in maps: a place is a symbol or an occurrence.
use Rattle.std.specs.Prelude.{ℕ, Bool, ◌&&◌, nat_eq}
use Rattle.computation_aims.specs.Aims.{number_of}
use Rattle.computation_aims.specs.declared.aims.Aim.{Aim}

abbrev pub Key : Type 0
Key = ℕ × ℕ × ℕ

abbrev pub key : ℕ → Aim → Key
key place aim = (place, number_of aim.way, aim.name.0)

abbrev pub is_same_key : Key → Key → Bool
is_same_key p q = nat_eq p.0 q.0 && nat_eq p.1 q.1 && nat_eq p.2 q.2

abbrev pub is_same_aim : ℕ → Aim → ℕ → Aim → Bool
is_same_aim place aim other_place other = is_same_key (key place aim) (key other_place other)
