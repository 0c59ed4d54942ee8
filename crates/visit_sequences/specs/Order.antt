-- The order of attribute occurrences in maps.
use Rattle.std.specs.declared.cmp.Ordering.{Ordering}
use Rattle.flat_grammar.specs.declared.flat.Occ.{Occ}
use Rattle.flat_grammar.specs.contracts.flat.OccOrd.TheImpl as occ_order

-- by the occurrence, and then by the attribute
abbrev pub compare_occurrences : Occ → Occ → Ordering
compare_occurrences = (occ_order.ghosts).cmp
