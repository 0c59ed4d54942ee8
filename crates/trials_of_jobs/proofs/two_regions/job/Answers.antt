use Rattle.std.proofs.Common.{◌∙◌, map, sym, subst}
use Rattle.lido_base.specs.declared.ids.NodeId.{NodeId}
use Rattle.tree_store.specs.Regions.{regions}
use Rattle.core_machine.specs.Core.{IsTask}
use Rattle.core_machine.specs.Limits.{AreInTheirTypes}
use Rattle.trials_of_jobs.proofs.SplitJob.{is-task, in-types}
use Rattle.trials_of_jobs.proofs.OpenNodes.{regions-of-two}
use Rattle.trials_of_jobs.proofs.two_regions.job.Goals as goal

pub new-requires-3-clause-facts : goal.new-requires-3-clause-facts
new-requires-3-clause-facts c = subst IsTask (λ i. record {
  symbols = sym c.in_ok-flat.ensures.symbols i;
  rules = sym c.in_ok-flat.ensures.rules i;
  shapes = sym c.in_ok-flat.ensures.shapes i;
  root = sym c.in_ok-flat.ensures.root i;
  visits = sym c.in_ok-plan.ensures.rows i;
  seqs = sym c.in_ok-plan.ensures.sequences i;
  written = sym c.in_ok-trees.ensures.written i;
  flat = sym c.in_ok-trees.ensures.flat i;
  node_of = sym c.in_ok-trees.ensures.nodes i;
  nodes = map (λ (n : NodeId). n.0) (sym c.in_ok-split.ensures.nodes i);
  texts = sym c.in_ok-strings.ensures i;
  patterns = sym c.new-2.ensures i;
}) is-task

pub new-requires-3-clause-regions : goal.new-requires-3-clause-regions
new-requires-3-clause-regions c = c.in_ok-split.ensures.regions ∙ sym regions-of-two
    ∙ (λ i. regions (sym c.in_ok-trees.ensures.flat i) (map (λ (n : NodeId). n.0) (sym c.in_ok-split.ensures.nodes i)))

pub new-requires-3-clause-numbers : goal.new-requires-3-clause-numbers
new-requires-3-clause-numbers c = subst AreInTheirTypes (λ i. record {
  symbols = sym c.in_ok-flat.ensures.symbols i;
  rules = sym c.in_ok-flat.ensures.rules i;
  shapes = sym c.in_ok-flat.ensures.shapes i;
  root = sym c.in_ok-flat.ensures.root i;
  visits = sym c.in_ok-plan.ensures.rows i;
  seqs = sym c.in_ok-plan.ensures.sequences i;
  written = sym c.in_ok-trees.ensures.written i;
  flat = sym c.in_ok-trees.ensures.flat i;
  node_of = sym c.in_ok-trees.ensures.nodes i;
  nodes = map (λ (n : NodeId). n.0) (sym c.in_ok-split.ensures.nodes i);
  texts = sym c.in_ok-strings.ensures i;
  patterns = sym c.new-2.ensures i;
}) in-types
