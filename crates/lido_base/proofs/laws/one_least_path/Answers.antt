use Rattle.lido_base.specs.Reach.{IsPathFrom, IsClosedPath}
use Rattle.lido_base.proofs.ReachLemmas.{one_first}
use Rattle.lido_base.proofs.laws.one_least_path.Goals as goal

pub returns-clause-path : goal.returns-clause-path
returns-clause-path c = λ is_start is_source is_edge path other. one_first (IsPathFrom is_start is_source is_edge) path other

pub returns-clause-cycle : goal.returns-clause-cycle
returns-clause-cycle c = λ is_edge cycle other. one_first (IsClosedPath is_edge) cycle other
