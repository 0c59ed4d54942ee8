use Rattle.std.proofs.Common.{◌∙◌, ap, Some}
use Rattle.tree_store.specs.Stored.{item_of}
use Rattle.tree_store.proofs.ReadingLemmas.{child_behind}
use Rattle.tree_store.proofs.tree.Tree.child.Goals as goal

pub returns-clause-behind : goal.returns-clause-behind
returns-clause-behind c = (child_behind c.args.self.now c.item.ensures.tree c.args.n.0 c.args.place c.in-Node.c.0 (c.item.ensures.item ∙ ap (λ x. Some (item_of x)) c.in-Node.is)).0

pub returns-clause-inside : goal.returns-clause-inside
returns-clause-inside c = (child_behind c.args.self.now c.item.ensures.tree c.args.n.0 c.args.place c.in-Node.c.0 (c.item.ensures.item ∙ ap (λ x. Some (item_of x)) c.in-Node.is)).1
