use Rattle.std.proofs.Common.{◌≡◌, ◌+◌, ◌∙◌, arith, ap, get_or}
use Rattle.std.specs.Prelude.{unwrap_or, slice_get}
use Rattle.lido_base.specs.declared.value.Value.TheVariants as value
use Rattle.core_machine.specs.Slots.{slot}
use Rattle.flat_grammar.specs.Instances.{instance_at}
use Rattle.core_machine.specs.Slots.{offset}
use Rattle.core_machine.proofs.SlotLemmas.{begin-read, begin-inside}
use Rattle.core_machine.proofs.EvaluationLemmas.{value-at}
use Rattle.core_machine.proofs.evaluation.HereSite.read_at.Goals as goal

pub bounds-self-node : goal.bounds-self-node
bounds-self-node c = begin-inside c.args.self.now.job.now c.args.self.now.begins.now c.args.self.now.offsets c.node_at-node.result c.node_at-node.ensures.inside

pub returns : goal.returns
returns c =
    let j = c.args.self.now.job.now in
    let place = get_or c.args.self.now.begins.now c.node_at-node.result 0 + c.args.o.attr.0 in
    let at : place ≡ slot j (instance_at j.flat c.args.self.now.node c.args.o) =
    ap (λ k. k + c.args.o.attr.0) (begin-read j c.args.self.now.begins.now c.args.self.now.offsets c.node_at-node.result c.node_at-node.ensures.inside ∙ ap (offset j) c.node_at-node.ensures.node) in
    c.unwrap_or.ensures ∙ ap (λ o. unwrap_or o value.Void) c.copied.ensures ∙ c.get.ensures.lookup.4 (omega arith) value.Void
    ∙ value-at c.args.self.now.values.now place value.Void ∙ ap (λ k. unwrap_or (slice_get c.args.self.now.values.now k) value.Void) at
