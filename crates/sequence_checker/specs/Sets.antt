-- Sets of attribute occurrences, by what they have.
use Rattle.std.specs.Prelude.{ℕ, Bool, ◌&&◌, nat_eq, List}
use Rattle.std.specs.List.{list_any, list_all}
use Rattle.lido_base.specs.declared.ids.AttrId.{AttrId}
use Rattle.flat_grammar.specs.declared.flat.Occ.{Occ}
use Rattle.sequence_checker.specs.declared.set.Occurrences.{Occurrences}

-- the pair of numbers is that of the occurrence
abbrev pub is_pair_of : Occ → ℕ × ℕ → Bool
is_pair_of o p = nat_eq o.occ p.0 && nat_eq o.attr.0 p.1

-- the set has the occurrence
unfoldable pub has : Occurrences → Occ → Bool
has s o = list_any (is_pair_of o) s.pairs.keys

-- the set has all these attributes of the occurrence
abbrev pub has_each : Occurrences → ℕ → List AttrId → Bool
has_each s k attrs = list_all (λ a. has s (record { occ = k; attr = a })) attrs

-- it is one of these attributes of the occurrence
abbrev pub is_one_of : ℕ → List AttrId → Occ → Bool
is_one_of k attrs o = nat_eq k o.occ && list_any (λ (a : AttrId). nat_eq a.0 o.attr.0) attrs
