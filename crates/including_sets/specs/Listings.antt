-- INCLUDINGs with what they list for the nonterminals.
use Rattle.std.specs.Prelude.{ℕ, Bool, ◌&&◌, nat_eq}
use Rattle.std.specs.Cmp.Lexicographic.{pointwise}
use Rattle.including_sets.specs.declared.listings.ListedAttr.{ListedAttr}
use Rattle.including_sets.specs.declared.listings.Listing.{Listing}

abbrev pub is_same_attr : ListedAttr → ListedAttr → Bool
is_same_attr a b = nat_eq a.sym.0 b.sym.0 && nat_eq a.attr.0 b.attr.0

-- they list the same
abbrev pub is_same_listing : Listing → Listing → Bool
is_same_listing l m = pointwise is_same_attr l.attrs.now m.attrs.now

abbrev pub computation_of : Listing → ℕ
computation_of l = l.one.comp
