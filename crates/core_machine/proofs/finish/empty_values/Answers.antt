use Rattle.std.proofs.Common.{◌≡◌, ◌∙◌, ap, arith, length}
use Rattle.core_machine.proofs.SlotLemmas.{end-read, end-inside}
use Rattle.core_machine.proofs.finish.empty_values.Goals as goal

pub bounds-begins-nodes : goal.bounds-begins-nodes
bounds-begins-nodes c =
    let n : c.len-nodes.result ≡ length c.args.job.now.flat = c.len-nodes.ensures.count ∙ ap length c.trees.ensures.flat in
    end-inside c.args.job.now c.args.begins.now c.requires c.len-nodes.result n

pub returns : goal.returns
returns c =
    let n : c.len-nodes.result ≡ length c.args.job.now.flat = c.len-nodes.ensures.count ∙ ap length c.trees.ensures.flat in
    let e = end-read c.args.job.now c.args.begins.now c.requires c.len-nodes.result n in
    omega (arith, e, c.in_ok-values.values.ok.0, c.in_ok-values.ensures.len)
