use Rattle.induced_deps.specs.Rounds.{OfPlaces}
use Rattle.induced_deps.proofs.ClosureLemmas.{gains_closed}
use Rattle.induced_deps.proofs.rounds.add_induced.Goals as goal

pub returns-then-join_induced-eq0-clause-edges : goal.returns-then-join_induced-eq0-clause-edges
returns-then-join_induced-eq0-clause-edges c = gains_closed c.args.closure.now.rows.items c.join_induced.new.closure.rows.items c.close.new.self.rows.items (OfPlaces c.args.ids.now c.args.places.now) c.join_induced.ensures.edges c.close.ensures.edges
