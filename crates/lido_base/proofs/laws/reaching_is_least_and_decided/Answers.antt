use Rattle.lido_base.specs.Reach.{source, edge}
use Rattle.lido_base.proofs.ReachLemmas.{Reaches-least, Reaches-path, path-Reaches, decided}
use Rattle.lido_base.proofs.laws.reaching_is_least_and_decided.Goals as goal

pub returns-clause-closed : goal.returns-clause-closed
returns-clause-closed c = λ is_source is_edge. record { sources = λ s h. source h; edges = λ s d h r. edge h r }

pub returns-clause-least : goal.returns-clause-least
returns-clause-least c = λ is_source is_edge test closed n r. Reaches-least is_source is_edge _ closed n r

pub returns-clause-by_path : goal.returns-clause-by_path
returns-clause-by_path c = λ is_source is_edge n. (λ r. Reaches-path is_source is_edge n r, λ p. path-Reaches is_source is_edge n p.0 p.1)

pub returns-clause-decided : goal.returns-clause-decided
returns-clause-decided c = λ is_source is_edge universe within. decided is_source is_edge universe within
