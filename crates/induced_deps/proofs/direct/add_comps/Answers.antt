use Rattle.induced_deps.specs.Vertices.{OfComps}
use Rattle.induced_deps.proofs.ClosureLemmas.{gains_closed}
use Rattle.induced_deps.proofs.direct.add_comps.Goals as goal

pub returns-clause-edges : goal.returns-clause-edges
returns-clause-edges c = gains_closed c.args.closure.now.rows.items c.join_comps.new.closure.rows.items c.close.new.self.rows.items (OfComps c.args.places.now c.args.comps.now) c.in_ok-join_comps.ensures.edges c.close.ensures.edges
