use Rattle.std.proofs.Common.{◌≡◌, map, take}
use Rattle.lido_base.specs.declared.ids.SymId.{SymId}
use Rattle.rule_tables.specs.Slots.{Con}
use Rattle.flat_slots.specs.Slots.{slots_in}
use Rattle.flat_terms.specs.Sites.{is_among}
use Rattle.flat_terms.proofs.PlaceLemmas.{places_from}
use Rattle.flat_terms.proofs.folds.givers.Given as goal

-- the children so far
abbrev pub invariant-loop-j : goal.invariant-loop-j
invariant-loop-j l = l.found.items ≡ places_from (λ x. is_among (Con l.number) (slots_in l.site.slots.now x)) 1 (take l.j (map (λ (x : SymId). x.0) l.right))
