use Rattle.std.proofs.Common.{inl, inr}
use Rattle.carried_trees.proofs.NodeLemmas.{plain-there, carried-node, carried-cell}
use Rattle.carried_trees.proofs.laws.flat_nodes_carry_what_they_stand_for.Goals as goal

pub returns-clause-node : goal.returns-clause-node
returns-clause-node c = λ f is x are A n w s stands. let (p, o) = plain-there f is x are n w (inl stands) in carried-node f is x are A n w p o stands s

pub returns-clause-cell : goal.returns-clause-cell
returns-clause-cell c = λ f is x are A n w s of. let (p, o) = plain-there f is x are n w (inr of) in carried-cell f is x are A n w p o of s
