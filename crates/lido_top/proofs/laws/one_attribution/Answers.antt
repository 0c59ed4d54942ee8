use Rattle.sum_trees.proofs.Order.{tree_preorder}
use Rattle.lido_top.proofs.SumsLemmas.{attribution_of}
use Rattle.lido_top.proofs.laws.one_attribution.Goals as goal

pub returns : goal.returns
returns c = λ rules tree_text nodes tree. attribution_of rules nodes (tree_preorder rules tree_text nodes tree)
