use Rattle.std.proofs.Common.{◌≡◌, ◌+◌, ◌∙◌, arith, ap, sym, refl, false, true≢false}
use Rattle.std.specs.Prelude.{slice_set}
use Rattle.lido_base.specs.Tree.{contains}
use Rattle.flat_grammar.specs.Instances.{instance_at}
use Rattle.core_machine.proofs.KeyLemmas.{counted}
use Rattle.core_machine.proofs.RunLemmas.{site-is}
use Rattle.region_engine.specs.Kept.{own_offset}
use Rattle.region_engine.proofs.Offsets.{goal-place, own-read}
use Rattle.region_engine.proofs.Sets.{number-read}
use Rattle.region_engine.proofs.values.Values.keep.Goals as goal

pub index-requires : goal.index-requires
index-requires c =
    let h = c.node_at-target.ensures.inside in
    let a = (own-read c.args.job.now c.args.self.now.region c.args.self.now.begins.items c.requires.sized.begins c.node_at-target.result (omega (arith, h))).0 in
    let b = c.args.self.now.begins.ok.0 in omega (arith, a, b)

pub index_mut-requires : goal.index_mut-requires
index_mut-requires c =
    let h = c.node_at-target.ensures.inside in
    let j = c.args.job.now in let v = c.args.self.now in let i = instance_at j.flat c.args.node c.args.goal in
    let read = own-read j v.region v.begins.items c.requires.sized.begins c.node_at-target.result (omega (arith, h)) in
    let begin = number-read v.begins.items c.node_at-target.result c.index.result.now read.0 c.index.ensures ∙ read.1 ∙ ap (own_offset j v.region) c.node_at-target.ensures.node in
    let none : contains i.0 j.nodes ≡ false = c.in_default.ensures in
    let low = goal-place j v.region c.facts.ensures i c.args.node c.args.goal c.requires.site none c.requires.own in
    let many = c.requires.sized.many in let b = v.own.ok.0 in
    omega (arith, begin, low, many, b)

pub index_mut-requires-2 : goal.index_mut-requires-2
index_mut-requires-2 c =
    let j = c.args.job.now in let i = instance_at j.flat c.args.node c.args.goal in
    let e = c.in-Some.ensures in
    let low = counted j c.facts.ensures i (e.0, site-is j c.facts.ensures i c.args.node c.args.goal c.requires.site) in
    let many = c.requires.sized.keys in let b = c.args.self.now.shared.ok.0 in
    omega (arith, low, many, b, e.1)

pub mark_evaluated-requires : goal.mark_evaluated-requires
mark_evaluated-requires c =
    let j = c.args.job.now in let i = instance_at j.flat c.args.node c.args.goal in
    let e = c.in-Some.ensures in
    let low = counted j c.facts.ensures i (e.0, site-is j c.facts.ensures i c.args.node c.args.goal c.requires.site) in
    let many = c.requires.sized.marks in let b = c.args.self.now.marks.ok.0 in
    omega (arith, low, many, e.1, b, c.as_mut_slice.ensures.len)

pub returns-in_default : goal.returns-in_default
returns-in_default c =
    let h = c.node_at-target.ensures.inside in
    let j = c.args.job.now in let v = c.args.self.now in let i = instance_at j.flat c.args.node c.args.goal in
    let read = own-read j v.region v.begins.items c.requires.sized.begins c.node_at-target.result (omega (arith, h)) in
    let begin = number-read v.begins.items c.node_at-target.result c.index.result.now read.0 c.index.ensures ∙ read.1 ∙ ap (own_offset j v.region) c.node_at-target.ensures.node in
    let none : contains i.0 j.nodes ≡ false = c.in_default.ensures in
    record {
      region = refl;
      begins = refl;
      split = λ is. absurd (true≢false (sym is ∙ none));
      other = λ none. record {
        own = ap (λ k. slice_set v.own.items (k + c.args.goal.attr.0) c.args.value) begin;
        shared = refl;
        marks = refl;
      };
    }
