use Rattle.tree_flattener.proofs.OnePlainLemmas.{plain_flat_tree, plain_instances, plain_text_cells}
use Rattle.tree_flattener.proofs.OneTreeLemmas.{same_fitting}
use Rattle.lido_base.specs.Plain.{plain_tree}
use Rattle.tree_flattener.proofs.laws.plain_trees_stay_flat.Goals as goal

pub returns-clause-flat : goal.returns-clause-flat
returns-clause-flat c = λ symbols rules shapes texts W F ns f. plain_flat_tree texts symbols rules shapes W F ns f

pub returns-clause-only : goal.returns-clause-only
returns-clause-only c = λ symbols rules shapes root texts W F ns G ms well fits f g.
    same_fitting symbols rules shapes root well (plain_tree texts W) fits G (plain_tree texts F) ms ns g (plain_flat_tree texts symbols rules shapes W F ns f)

pub returns-clause-instances : goal.returns-clause-instances
returns-clause-instances c = λ symbols rules texts F. plain_instances texts symbols rules F

pub returns-clause-text_cells : goal.returns-clause-text_cells
returns-clause-text_cells c = λ symbols rules texts F. plain_text_cells texts symbols rules F
