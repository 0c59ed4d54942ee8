use Rattle.partitions.proofs.PeelingLemmas.{attributes-few, class-step}
use Rattle.partitions.proofs.peeling.with_class.Goals as goal

pub returns-clause-level : goal.returns-clause-level
returns-clause-level c = λ k e old. class-step c.args.flat.now.symbols c.args.flat.now.rules c.args.x (attributes-few c.args.flat.now.symbols c.args.x c.args.flat.now.well_formed.few_attributes)
    c.args.kind k c.args.peeled c.closed_set.result c.union.result e old c.closed_set.ensures.closed c.closed_set.ensures.greatest c.union.ensures.members
