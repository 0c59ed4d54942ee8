use Rattle.std.specs.Prelude.{slice_get}
use Rattle.std.proofs.Common.{◌<◌, ◌+◌, ◌∙◌, ap, sym, subst, arith, length, get_or}
use Rattle.std.proofs.Math.ListN.{set}
use Rattle.std.proofs.lemmas.Option.{slice_get-get_or}
use Rattle.flat_grammar.specs.Instances.{instance_at}
use Rattle.flat_grammar.specs.WholeOrder.{node_at}
use Rattle.core_machine.specs.Core.{Task}
use Rattle.core_machine.specs.Slots.{offset}
use Rattle.core_machine.proofs.RunLemmas.{site-inside, site-is, room-there, room-enough, next-behind}
use Rattle.core_machine.proofs.SlotLemmas.{begin-read, begin-inside, slot-inside}
use Rattle.core_machine.proofs.run.evaluate_next.Goals as goal

pub bounds-rooms-region : goal.bounds-rooms-region
bounds-rooms-region c =
    let j = c.args.whole.now in let i = instance_at j.flat c.args.node c.args.goal in
    let low = room-there j c.facts.ensures c.requires.behind.0 c.requires.behind.1 i c.args.node c.args.goal c.requires.site c.args.values.now c.args.rooms.now c.requires.behind.2 in
    omega (arith, low, c.region_at-region.ensures)

pub offset_bounds-rooms-region : goal.offset_bounds-rooms-region
offset_bounds-rooms-region c =
    let j = c.args.whole.now in let i = instance_at j.flat c.args.node c.args.goal in
    let low = room-there j c.facts.ensures c.requires.behind.0 c.requires.behind.1 i c.args.node c.args.goal c.requires.site c.args.values.now c.args.rooms.now c.requires.behind.2 in
    omega (arith, low, c.region_at-region.ensures, c.requires.behind.2.count, c.facts.ensures.few_nodes)

pub given-value-requires-clause-cells : goal.given-value-requires-clause-cells
given-value-requires-clause-cells c = λ k e.
    let j = c.args.whole.now in let i = instance_at j.flat c.args.node c.args.goal in
    let low = room-there j c.facts.ensures c.requires.behind.0 c.requires.behind.1 i c.args.node c.args.goal c.requires.site c.args.values.now c.args.rooms.now c.requires.behind.2 in
    let there = ap (slice_get c.args.rooms.now) (sym c.region_at-region.ensures) ∙ slice_get-get_or c.args.rooms.now c.region_at-region.result c.index-rooms-region.result (omega (arith, low, c.region_at-region.ensures)) in
    room-enough j c.facts.ensures c.requires.behind.0 c.requires.behind.1 i c.args.node c.args.goal c.requires.site c.args.values.now c.args.rooms.now c.requires.behind.2 k e
    (get_or c.args.rooms.now c.region_at-region.result c.index-rooms-region.result) there

pub node_at-target-requires : goal.node_at-target-requires
node_at-target-requires c = subst (λ (t : Task). c.args.node < length t.flat) (sym c.job.ensures)
    (site-inside c.args.whole.now c.facts.ensures (instance_at c.args.whole.now.flat c.args.node c.args.goal) c.args.node c.args.goal c.requires.site)

pub bounds-begins-target : goal.bounds-begins-target
bounds-begins-target c = begin-inside c.args.whole.now c.args.begins.now c.requires.begins c.node_at-target.result
    (subst (λ (t : Task). c.node_at-target.result < length t.flat) c.job.ensures c.node_at-target.ensures.inside)

pub bounds-values-begins : goal.bounds-values-begins
bounds-values-begins c =
    let j = c.args.whole.now in let i = instance_at j.flat c.args.node c.args.goal in
    let target = c.node_at-target.ensures.node ∙ ap (λ (t : Task). node_at t.flat c.args.node c.args.goal.occ) c.job.ensures in
    let read = begin-read j c.args.begins.now c.requires.begins c.node_at-target.result (subst (λ (t : Task). c.node_at-target.result < length t.flat) c.job.ensures c.node_at-target.ensures.inside) ∙ ap (offset j) target in
    let low = slot-inside j c.facts.ensures i (site-is j c.facts.ensures i c.args.node c.args.goal c.requires.site) in
    omega (arith, read, low, c.requires.behind.2.many)

pub returns-clause-behind : goal.returns-clause-behind
returns-clause-behind c = λ front left before.
    let j = c.args.whole.now in let i = instance_at j.flat c.args.node c.args.goal in
    let target = c.node_at-target.ensures.node ∙ ap (λ (t : Task). node_at t.flat c.args.node c.args.goal.occ) c.job.ensures in
    let read = begin-read j c.args.begins.now c.requires.begins c.node_at-target.result (subst (λ (t : Task). c.node_at-target.result < length t.flat) c.job.ensures c.node_at-target.ensures.inside) ∙ ap (offset j) target in
    let low = room-there j c.facts.ensures front left i c.args.node c.args.goal c.requires.site c.args.values.now c.args.rooms.now before in
    let there = ap (slice_get c.args.rooms.now) (sym c.region_at-region.ensures) ∙ slice_get-get_or c.args.rooms.now c.region_at-region.result c.index-rooms-region.result (omega (arith, low, c.region_at-region.ensures)) in
    let room = get_or c.args.rooms.now c.region_at-region.result c.index-rooms-region.result in
    next-behind j c.facts.ensures front left i c.args.node c.args.goal c.requires.site c.args.values.now c.args.rooms.now before
    (set c.args.values.now (get_or c.args.begins.now c.node_at-target.result 0 + c.args.goal.attr.0) c.given-value.result)
    (set c.args.rooms.now c.region_at-region.result c.given-value.new.room) room c.given-value.new.room c.given-value.result there
    c.given-value.ensures.exact c.given-value.ensures.number c.given-value.ensures.space
    (ap (λ m. set c.args.values.now (m + c.args.goal.attr.0) c.given-value.result) read)
    (ap (λ m. set c.args.rooms.now m c.given-value.new.room) c.region_at-region.ensures)
