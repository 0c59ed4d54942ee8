use Rattle.std.proofs.Common.{◌≡◌, ◌+◌, ◌∙◌, false, arith, ap, sym}
use Rattle.std.specs.Prelude.{unwrap_or, slice_get, if◌then◌else◌}
use Rattle.lido_base.specs.declared.value.Value.TheVariants as value
use Rattle.flat_grammar.specs.Instances.{instance_at}
use Rattle.core_machine.specs.Keys.{key_of}
use Rattle.core_machine.proofs.EvaluationLemmas.{value-at}
use Rattle.region_engine.specs.Kept.{own_offset}
use Rattle.lido_base.specs.Tree.{contains}
use Rattle.region_engine.proofs.Sets.{number-read}
use Rattle.region_engine.proofs.Offsets.{own-read}
use Rattle.region_engine.proofs.values.Values.read.Goals as goal

pub index-requires : goal.index-requires
index-requires c =
    let h = c.node_at-target.ensures.inside in
    let a = (own-read c.args.job.now c.args.self.now.region c.args.self.now.begins.items c.requires.begins c.node_at-target.result (omega (arith, h))).0 in
    omega (arith, a, c.args.self.now.begins.ok.0)

pub returns : goal.returns
returns c =
    let h = c.node_at-target.ensures.inside in
    let a = (own-read c.args.job.now c.args.self.now.region c.args.self.now.begins.items c.requires.begins c.node_at-target.result (omega (arith, h))).1 in
    let inside = (own-read c.args.job.now c.args.self.now.region c.args.self.now.begins.items c.requires.begins c.node_at-target.result (omega (arith, h))).0 in
    let j = c.args.job.now in let v = c.args.self.now in let i = instance_at j.flat c.args.node c.args.o in
    let place = c.index.result.now + c.args.o.attr.0 in
    let begin = number-read v.begins.items c.node_at-target.result c.index.result.now inside c.index.ensures ∙ a ∙ ap (own_offset j v.region) c.node_at-target.ensures.node in
    let at : place ≡ own_offset j v.region i.0 + i.1 = ap (λ k. k + c.args.o.attr.0) begin in
    let none : contains i.0 j.nodes ≡ false = c.in_default.ensures in
    c.unwrap_or-2.ensures ∙ ap (λ o. unwrap_or o value.Void) c.copied-2.ensures ∙ c.get-2.ensures.lookup.4 (omega arith) value.Void
    ∙ value-at c.deref-2.result.now place value.Void
    ∙ ap (λ l. unwrap_or (slice_get l place) value.Void) c.deref-2.ensures.value
    ∙ ap (λ k. unwrap_or (slice_get v.own.items k) value.Void) at
    ∙ sym (ap (λ b. unwrap_or (if b then slice_get v.shared.items (key_of j i) else slice_get v.own.items (own_offset j v.region i.0 + i.1)) value.Void) none)
