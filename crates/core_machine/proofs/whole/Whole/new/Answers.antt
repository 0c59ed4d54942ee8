use Rattle.std.proofs.Common.{◌∙◌, ◌≡◌, ap, sym, length, map}
use Rattle.std.specs.Prelude.{replicate}
use Rattle.lido_base.specs.declared.ids.NodeId.{NodeId}
use Rattle.tree_store.specs.Regions.{regions}
use Rattle.core_machine.proofs.Undivided.{one-region}
use Rattle.core_machine.proofs.whole.Whole.new.Goals as goal

pub resplit-job-requires-clause-regions : goal.resplit-job-requires-clause-regions
resplit-job-requires-clause-regions c =
    let many : c.len-count.result ≡ length c.args.job.flat = c.len-count.ensures.count ∙ ap length c.trees.ensures.flat in
    one-region c.args.job.flat c.from_vec.result (c.from_vec.ensures ∙ c.in_ok-regions.ensures.items_if_clones_equal (λ y e. e) ∙ ap (λ n. replicate n 0) many)
    ∙ ap (λ l. regions c.args.job.flat (map (λ (n : NodeId). n.0) l)) (sym c.new.ensures)
