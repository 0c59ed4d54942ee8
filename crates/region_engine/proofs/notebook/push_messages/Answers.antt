use Rattle.std.specs.Prelude.{unwrap_or}
use Rattle.std.proofs.Common.{◌≡◌, ◌+◌, ◌∙◌, slice_get, ap, arith, sym, subst, get_or, false}
use Rattle.lido_base.specs.declared.kinds.Kind.TheVariants.{Synthesized}
use Rattle.lido_base.specs.declared.value.ValueType.TheVariants as type
use Rattle.flat_grammar.specs.declared.flat.FlatAttr.{FlatAttr}
use Rattle.core_machine.specs.Core.{written_at}
use Rattle.core_machine.proofs.EvaluationLemmas.{number-at}
use Rattle.core_machine.proofs.SiteLemmas.{attributes-count, few-of-node}
use Rattle.region_engine.specs.Notebooks.{AreMessagesBefore}
use Rattle.region_engine.proofs.Messages.{messages-done, messages-more, messages-same}
use Rattle.region_engine.proofs.notebook.push_messages.Goals as goal
use Rattle.region_engine.proofs.notebook.push_messages.Goals.{then-attr+in_ok-push, else-attr}

pub overflow_cast-k : goal.overflow_cast-k
overflow_cast-k c =
    let j = c.args.job.now in
    let a = attributes-count j c.facts.ensures c.args.node c.attributes_at-attr-items.result.now c.requires.inside c.attributes_at-attr-items.ensures in
    let b = few-of-node j c.facts.ensures c.args.node c.requires.inside in
    omega (arith, a, b, c.loop-k-test.true)

pub loop-k-preserved : goal.loop-k-preserved
loop-k-preserved c =
    let j = c.args.job.now in
    let items = c.attributes_at-attr-items.result.now in
    let none : FlatAttr = record { name = record { 0 = 0 }; kind = Synthesized; ty = type.Int; written = false; message = false } in
    let written : get_or c.as_slice.result.now c.args.node 0 ≡ written_at j c.args.node =
    number-at c.as_slice.result.now c.args.node ∙ ap (λ l. unwrap_or (slice_get l c.args.node) 0) (c.as_slice.ensures ∙ c.trees.ensures.nodes) in
    elim c.if-attr.branch [
      | then-attr+in_ok-push w ↦ subst (AreMessagesBefore j c.args.node (c.loop-k.k + 1)) (sym (ap (λ v. v.items) w.list-is))
          (messages-more j c.facts.ensures c.args.node items c.requires.inside c.attributes_at-attr-items.ensures c.loop-k.k none c.loop-k-test.true
          c.loop-k.list.items c.loop-k.invariant
          w.push.new.self.items (get_or c.as_slice.result.now c.args.node 0) w.if-attr.true written w.in_ok-push.ensures.items)
      | else-attr w ↦ subst (AreMessagesBefore j c.args.node (c.loop-k.k + 1)) (sym (ap (λ v. v.items) w.list-is))
          (messages-same j c.facts.ensures c.args.node items c.requires.inside c.attributes_at-attr-items.ensures c.loop-k.k none c.loop-k-test.true
          c.loop-k.list.items c.loop-k.invariant w.if-attr.false)
    ]

pub returns : goal.returns
returns c = messages-done c.args.job.now c.facts.ensures c.args.node c.attributes_at-attr-items.result.now c.requires.inside c.attributes_at-attr-items.ensures
    c.loop-k.k c.loop-k.list.items c.loop-k.auto.k-end c.loop-k-test.false c.loop-k.invariant
