-- A job's parts as the definitions see them.
use Rattle.std.specs.Prelude.{ℕ, List, map}
use Rattle.lido_base.specs.declared.ids.NodeId.{NodeId}
use Rattle.lido_base.specs.declared.pattern.Patterns.{Patterns}
use Rattle.flat_grammar.specs.declared.flat.Flat.{Flat}
use Rattle.flat_grammar.specs.declared.plan.Plan.{Plan}
use Rattle.tree_store.specs.declared.trees.Trees.{Trees}
use Rattle.tree_store.specs.declared.trees.Split.{Split}
use Rattle.core_machine.specs.Core.{Task}

-- the task of a grammar, its plan, a written tree with its flat one and where that is split, texts by their ids, and patterns
abbrev pub task_of : Flat → Plan → Trees → Split → List (List ℕ) → Patterns → Task
task_of flat plan trees split strings patterns = record {
  symbols = flat.symbols;
  rules = flat.rules;
  shapes = flat.shapes;
  root = flat.root;
  visits = plan.visits;
  seqs = plan.seqs;
  written = trees.written;
  flat = trees.flat;
  node_of = trees.node_of;
  nodes = map (λ (n : NodeId). n.0) split.nodes;
  texts = strings;
  patterns = patterns.list;
}
