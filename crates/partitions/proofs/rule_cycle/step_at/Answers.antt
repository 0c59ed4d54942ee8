use Rattle.std.proofs.Common.{◌≡◌, ◌<◌, ℕ, List, Some, get_or, length}
use Rattle.std.specs.Prelude.{slice_get}
use Rattle.std.proofs.lemmas.Option.{slice_get-get_or}
use Rattle.flat_grammar.specs.declared.flat.Occ.{Occ}
use Rattle.flat_grammar.proofs.BitsLemmas.{iff_then}
use Rattle.partitions.proofs.StepsLemmas.{next-is}
use Rattle.partitions.proofs.rule_cycle.step_at.Goals as goal

vertex-at : (cycle : List ℕ) (occs : List Occ) (k : ℕ) (e : Occ) → k < length cycle → ((j v : ℕ) → slice_get cycle j ≡ Some v → v < length occs) → (slice_get cycle k ≡ Some (get_or cycle k 0)) × (slice_get occs (get_or cycle k 0) ≡ Some (get_or occs (get_or cycle k 0) e))
vertex-at cycle occs k e l all = let at = slice_get-get_or cycle k 0 l in (at, slice_get-get_or occs (get_or cycle k 0) e (all k (get_or cycle k 0) at))

pub label_of-requires-clause-edge : goal.label_of-requires-clause-edge
label_of-requires-clause-edge c =
    let from = vertex-at c.args.cycle.now c.args.occs.now c.args.place (record { occ = 0; attr = record { 0 = 0 } }) c.requires.place c.requires.vertices in
    let to = vertex-at c.args.cycle.now c.args.occs.now c.next_place.result (record { occ = 0; attr = record { 0 = 0 } }) c.next_place.ensures.within c.requires.vertices in
    c.requires.edges c.args.place c.next_place.result _ _ _ _ (next-is (length c.args.cycle.now) c.args.place c.next_place.result c.requires.place c.next_place.ensures.next c.next_place.ensures.last) from.0 to.0 from.1 to.1

pub label_of-requires-clause-occurrence : goal.label_of-requires-clause-occurrence
label_of-requires-clause-occurrence c = let from = vertex-at c.args.cycle.now c.args.occs.now c.args.place (record { occ = 0; attr = record { 0 = 0 } }) c.requires.place c.requires.vertices in (c.requires.occurrences _ _ from.1).0

pub label_of-requires-clause-attribute : goal.label_of-requires-clause-attribute
label_of-requires-clause-attribute c = let to = vertex-at c.args.cycle.now c.args.occs.now c.next_place.result (record { occ = 0; attr = record { 0 = 0 } }) c.next_place.ensures.within c.requires.vertices in (c.requires.occurrences _ _ to.1).1

pub returns : goal.returns
returns c =
    let from = vertex-at c.args.cycle.now c.args.occs.now c.args.place (record { occ = 0; attr = record { 0 = 0 } }) c.requires.place c.requires.vertices in
    let to = vertex-at c.args.cycle.now c.args.occs.now c.next_place.result (record { occ = 0; attr = record { 0 = 0 } }) c.next_place.ensures.within c.requires.vertices in
    (c.next_place.result, _, _, _, next-is (length c.args.cycle.now) c.args.place c.next_place.result c.requires.place c.next_place.ensures.next c.next_place.ensures.last, from.0, to.0, from.1, to.1, c.label_of.ensures)

pub label_of-requires-clause-direct : goal.label_of-requires-clause-direct
label_of-requires-clause-direct c =
    let from = vertex-at c.args.cycle.now c.args.occs.now c.args.place (record { occ = 0; attr = record { 0 = 0 } }) c.requires.place c.requires.vertices in
    let to = vertex-at c.args.cycle.now c.args.occs.now c.next_place.result (record { occ = 0; attr = record { 0 = 0 } }) c.next_place.ensures.within c.requires.vertices in
    iff_then c.is_edge.ensures (c.requires.direct _ _ _ _ from.1 to.1)
