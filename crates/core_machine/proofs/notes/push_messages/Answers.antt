use Rattle.std.specs.Prelude.{slice_get, unwrap_or}
use Rattle.std.proofs.Common.{◌≡◌, ◌+◌, ◌<◌, ℕ, length, ◌∙◌, ap, sym, subst, arith, get_or, pos, false}
use Rattle.lido_base.specs.declared.kinds.Kind.TheVariants.{Synthesized}
use Rattle.lido_base.specs.declared.value.ValueType.TheVariants as type
use Rattle.lido_base.specs.declared.value.Value.TheVariants as value
use Rattle.core_machine.specs.Notes.{AreEntries}
use Rattle.core_machine.specs.Slots.{offset}
use Rattle.core_machine.proofs.EvaluationLemmas.{number-at}
use Rattle.core_machine.proofs.SlotLemmas.{begin-read, begin-inside, place-inside}
use Rattle.core_machine.proofs.SiteLemmas.{attributes-count, few-of-node}
use Rattle.core_machine.proofs.NoteLemmas.{entries-step, entries-skip, entries-done}
use Rattle.core_machine.proofs.notes.push_messages.Goals.{in-Some+in_ok-push-in-Some, in-None}
use Rattle.core_machine.proofs.notes.push_messages.Goals as goal

omega-below : (k begin place end count : ℕ) → begin ≡ place → place + k < end → count ≡ end → begin + k < count
omega-below k begin place end count e l m = omega (arith, e, l, m)

pub bounds-begins-node : goal.bounds-begins-node
bounds-begins-node c = begin-inside c.args.job.now c.args.begins.now c.requires.begins c.args.node c.requires.inside

pub offset_bounds-values-begin : goal.offset_bounds-values-begin
offset_bounds-values-begin c =
    let a = attributes-count c.args.job.now c.facts.ensures c.args.node c.attributes_at-attr-items.result.now c.requires.inside c.attributes_at-attr-items.ensures in
    let b = begin-read c.args.job.now c.args.begins.now c.requires.begins c.args.node c.requires.inside in
    let d = place-inside c.args.job.now c.facts.ensures c.args.node c.loop-k.k c.requires.inside (omega (arith, a, c.loop-k-test.true)) in
    omega (arith, b, d.1)

pub bounds-values-begin : goal.bounds-values-begin
bounds-values-begin c =
    let a = attributes-count c.args.job.now c.facts.ensures c.args.node c.attributes_at-attr-items.result.now c.requires.inside c.attributes_at-attr-items.ensures in
    let b = begin-read c.args.job.now c.args.begins.now c.requires.begins c.args.node c.requires.inside in
    let d = place-inside c.args.job.now c.facts.ensures c.args.node c.loop-k.k c.requires.inside (omega (arith, a, c.loop-k-test.true)) in
    omega (arith, b, d.0, c.requires.many)

pub overflow_cast-k : goal.overflow_cast-k
overflow_cast-k c =
    let a = attributes-count c.args.job.now c.facts.ensures c.args.node c.attributes_at-attr-items.result.now c.requires.inside c.attributes_at-attr-items.ensures in
    let b = few-of-node c.args.job.now c.facts.ensures c.args.node c.requires.inside in
    omega (arith, a, b, c.loop-k-test.true)

pub loop-k-preserved : goal.loop-k-preserved
loop-k-preserved c =
    let j = c.args.job.now in
    let a = attributes-count j c.facts.ensures c.args.node c.attributes_at-attr-items.result.now c.requires.inside c.attributes_at-attr-items.ensures in
    let b = begin-read j c.args.begins.now c.requires.begins c.args.node c.requires.inside in
    let d = place-inside j c.facts.ensures c.args.node c.loop-k.k c.requires.inside (omega (arith, a, c.loop-k-test.true)) in
    let within = omega-below c.loop-k.k (get_or c.args.begins.now c.args.node 0) (offset j c.args.node) (offset j (length j.flat)) (length c.args.values.now) b d.0 c.requires.many in
    elim c.match-message_at.branch [
      | in-Some+in_ok-push-in-Some w ↦ subst (λ v. AreEntries j c.args.values.now c.args.node (c.loop-k.k + 1) v) (sym (ap (λ v. v.items) w.entries-is))
          (entries-step j c.facts.ensures c.args.values.now c.args.node c.loop-k.k (get_or c.args.begins.now c.args.node 0) c.attributes_at-attr-items.result.now
          (record { name = record { 0 = 0 }; kind = Synthesized; ty = type.Int; written = false; message = false }) (value.Int (pos 0))
          c.requires.inside c.attributes_at-attr-items.ensures c.loop-k-test.true b within c.loop-k.entries.items c.loop-k.invariant
          w.push.new.self.items w.in-Some.text (get_or c.as_slice.result.now c.args.node 0) w.in-Some.ensures
          (number-at c.as_slice.result.now c.args.node ∙ ap (λ l. unwrap_or (slice_get l c.args.node) 0) (c.as_slice.ensures ∙ c.trees.ensures.nodes)) w.in_ok-push-in-Some.ensures.items)
      | in-None w ↦ subst (λ v. AreEntries j c.args.values.now c.args.node (c.loop-k.k + 1) v) (sym (ap (λ v. v.items) w.entries-is))
          (entries-skip j c.facts.ensures c.args.values.now c.args.node c.loop-k.k (get_or c.args.begins.now c.args.node 0) c.attributes_at-attr-items.result.now
          (record { name = record { 0 = 0 }; kind = Synthesized; ty = type.Int; written = false; message = false }) (value.Int (pos 0))
          c.requires.inside c.attributes_at-attr-items.ensures c.loop-k-test.true b within c.loop-k.entries.items c.loop-k.invariant w.in-None.ensures)
    ]

pub returns : goal.returns
returns c = entries-done c.args.job.now c.facts.ensures c.args.values.now c.args.node c.loop-k.k c.attributes_at-attr-items.result.now c.loop-k.entries.items
    c.requires.inside c.attributes_at-attr-items.ensures c.loop-k.auto.k-end c.loop-k-test.false c.loop-k.invariant
