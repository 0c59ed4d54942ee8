use Rattle.std.proofs.Common.{length, arith, []}
use Rattle.std.proofs.Math.Seq.{map-set_same}
use Rattle.std.proofs.lemmas.Grind.{common_steps}
use Rattle.induced_deps.proofs.rounds.project_place.Goals as goal

pub returns-clause-sizes : goal.returns-clause-sizes
returns-clause-sizes c = map-set_same length c.args.ids.now c.args.place.symbol.0 _ [] (grind (arith, common_steps))
