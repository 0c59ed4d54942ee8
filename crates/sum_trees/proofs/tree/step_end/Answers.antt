use Rattle.sum_trees.proofs.Paths.{end_leads, no_end, past}
use Rattle.sum_trees.proofs.tree.step_end.Goals as goal

pub returns-in-Some-clause-leads : goal.returns-in-Some-clause-leads
returns-in-Some-clause-leads c = λ frames path. end_leads _ frames _ _ _ _ (past _ _ c.requires.asks) c.in-Some.ensures.some path

pub returns-in-None-clause-outside : goal.returns-in-None-clause-outside
returns-in-None-clause-outside c = λ is frames final few path reaches. no_end _ frames _ _ _ final (past _ _ c.requires.asks) c.in-None.ensures.none path reaches
