use Rattle.std.proofs.Common.{arith}
use Rattle.partitions.proofs.PeelingLemmas.{attributes-few, kept-closed, kept-greatest}
use Rattle.partitions.proofs.peeling.closed_set.Goals as goal

pub kept-requires : goal.kept-requires
kept-requires c = omega (arith, c.requires.each, attributes-few c.args.flat.now.symbols c.args.x c.args.flat.now.well_formed.few_attributes)

pub returns-clause-closed : goal.returns-clause-closed
returns-clause-closed c = kept-closed c.args.flat.now.symbols c.args.flat.now.rules c.args.x c.args.rows.now c.args.kind c.args.peeled c.of_kind.result c.kept.result c.requires c.of_kind.ensures c.kept.ensures

pub returns-clause-greatest : goal.returns-clause-greatest
returns-clause-greatest c = kept-greatest c.args.flat.now.symbols c.args.flat.now.rules c.args.x c.args.rows.now c.args.kind c.args.peeled c.of_kind.result c.kept.result c.requires c.of_kind.ensures c.kept.ensures
